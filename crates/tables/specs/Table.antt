-- A table of the book as a value: where its places lie, how one is read and stored, whose it is, when it is free and
-- what it says. P is the struct of a place, R the written meaning's record. Assumes nothing.
use Rattle.std.specs.Prelude.{ℕ, zero, suc, ◌+◌, ◌*◌, ◌≤◌, ◌≡◌, Bool, true, ◌&&◌, cond, List, [], ◌∷◌, ◌⊎◌, eqb, ltb, length, replicate}
use Rattle.tables.specs.Bytes.{Width, numbers, bytes_of, total, Hold, puts}
use Rattle.tables.specs.Count.{find_below, lone}

pub record Table (P R : Type 0) : Type 0 where
  -- the address of the first place, and how many places there are
  pub start : ℕ
  pub places : ℕ
  -- how many records a depository may hold
  pub quota : ℕ
  -- the widths of the numbers at a place, the numbers of a struct, and the struct that numbers are
  pub widths : List Width
  pub shown : P → List ℕ
  pub from : List ℕ → P
  -- a place read and stored
  pub at : List ℕ → ℕ → P
  pub put : List ℕ → ℕ → P → List ℕ
  -- whose it is, 0 where it is free; whether it is free; what it says without its depository
  pub csd : P → ℕ
  pub free : P → Bool
  pub rec : P → R

module _ {P R : Type 0} (t : Table P R) where
  -- the bytes of a place, the address of place i, and of what follows the last place
  abbrev pub width : ℕ
  width = total t.widths

  abbrev pub address : ℕ → ℕ
  address i = t.start + i * width

  abbrev pub end : ℕ
  end = address t.places

  -- what stands at a free place
  abbrev pub vacant : P
  vacant = t.from (replicate (length t.widths) 0)

  -- a record stored, and nothing where there is no such place
  abbrev pub store : List ℕ → ℕ → P → List ℕ
  store b i r = cond (ltb i t.places) (t.put b i r) b

  -- what the places say that are depository a's
  abbrev pub list_of : ℕ → List ℕ → List R
  list_of a b = lone t.csd t.rec a (t.at b) t.places

  -- the place holds a record of depository a that is as p asks, and the last such place
  abbrev pub hit : List ℕ → ℕ → (R → Bool) → ℕ → Bool
  hit b a p k = eqb (t.csd (t.at b k)) a && p (t.rec (t.at b k))

  abbrev pub place_of : List ℕ → ℕ → (R → Bool) → ℕ
  place_of b a p = find_below t.places (hit b a p) t.places

  -- the table's own facts: it is read and stored by its widths from its start on, and a free place is nobody's
  pub record Lies : Type 0 where
    pub reads : (b : List ℕ) (i : ℕ) → t.at b i ≡ t.from (numbers t.widths b (address i) 0)
    pub stores : (b : List ℕ) (i : ℕ) (r : P) → t.put b i r ≡ puts b (address i) 0 (bytes_of t.widths (t.shown r))
    pub nobody : (r : P) → t.free r ≡ true → t.csd r ≡ 0
    pub blank : t.shown vacant ≡ replicate (length t.widths) 0
    pub empty : t.free vacant ≡ true

  -- the record fits its place: each number has its width, and together they are the record
  pub record Fits (r : P) : Type 0 where
    pub holds : Hold t.widths (t.shown r)
    pub whole : t.from (t.shown r) ≡ r

-- one of two tables ends before the other starts
abbrev pub Apart : {P Q R S : Type 0} → Table P R → Table Q S → Type 0
Apart t u = (end t ≤ u.start) ⊎ (end u ≤ t.start)

-- where the n-th of tables of these sizes starts, that stand one after the other
unfoldable pub start_of : List ℕ → ℕ → ℕ
start_of [] n = 0
start_of (s ∷ l) zero = 0
start_of (s ∷ l) (suc n) = s + start_of l n
