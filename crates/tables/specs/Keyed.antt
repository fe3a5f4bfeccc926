-- A table of numbers addressed by key: what one pass over the places of a table of records leaves in it. Assumes
-- nothing.
use Rattle.std.specs.Prelude.{ℕ, zero, suc, ◌<◌, ◌≡◌, Bool, ◌&&◌, cond, List, eqb, ltb, length, get_or, set}
use Rattle.tables.specs.Below.{any_below, least_below}

-- whether the entry of the key is a mark; none is past the end
abbrev pub marked : List ℕ → ℕ → Bool
marked t k = eqb (get_or t k 0) 1

-- at reads a place, csd says whose it is, key where its entry stands, on whether it has one
module _ {P : Type 0} (csd : P → ℕ) (a : ℕ) (at : ℕ → P) (key : P → ℕ) (on : P → Bool) where
  -- whether place i is depository a's, is on and has the key k
  abbrev pub hits : ℕ → ℕ → Bool
  hits k i = eqb (csd (at i)) a && (on (at i) && eqb (key (at i)) k)

  -- the entry of the key k after the first n places: 0, changed by step at each place that hits it
  unfoldable pub entry : (P → ℕ → ℕ) → ℕ → ℕ → ℕ
  entry step k zero = 0
  entry step k (suc n) = cond (hits k n) (step (at n) (entry step k n)) (entry step k n)

  -- the keys of a table of that size that one of the first n places hits
  unfoldable pub keys : ℕ → ℕ → ℕ → Bool
  keys size n k = ltb k size && any_below (hits k) n

  -- at each key of a table of that size, the least number f of the first n places that hit it; 0 where none does
  unfoldable pub leasts : (P → ℕ) → ℕ → ℕ → ℕ → ℕ
  leasts f size n k = cond (ltb k size) (least_below (λ i. cond (hits k i) (f (at i)) 0) n) 0

-- the table after one place, where y stands: if it is a's and on, step changes the entry of its key; nothing past the
-- end
unfoldable pub after_place : {P : Type 0} → (P → ℕ) → ℕ → (P → ℕ) → (P → Bool) → (P → ℕ → ℕ) → P → List ℕ → List ℕ
after_place csd a key on step y t = cond (eqb (csd y) a && on y) (set t (key y) (step y (get_or t (key y) 0))) t

-- a table of that size, each entry as the first n places leave it
pub record Keyed {P : Type 0} (size : ℕ) (csd : P → ℕ) (a : ℕ) (at : ℕ → P) (key : P → ℕ) (on : P → Bool) (step : P → ℕ → ℕ) (t : List ℕ) (n : ℕ) : Type 0 where
  pub long : length t ≡ size
  pub each : (k : ℕ) → k < size → get_or t k 0 ≡ entry csd a at key on step k n

-- a table without entries
pub record Blank (size : ℕ) (t : List ℕ) : Type 0 where
  pub long : length t ≡ size
  pub each : (k : ℕ) → k < size → get_or t k 0 ≡ 0
