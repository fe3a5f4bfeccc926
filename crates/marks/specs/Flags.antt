-- A table with n flags to an entry: the flag of the key k is flag k % n of the entry at k / n. Assumes nothing.
use Rattle.std.specs.Prelude.{ℕ, zero, suc, ◌+◌, ◌*◌, ◌/◌, ◌%◌, Bool, cond, List, eqb, get_or}
use Rattle.tables.specs.Keyed.{after_place}

-- what flag j adds to an entry: 1, 2, 4, 8 and so on
unfoldable pub weight : ℕ → ℕ
weight zero = 1
weight (suc j) = weight j * 2

-- whether the entry x has flag j
unfoldable pub flag : ℕ → ℕ → Bool
flag zero x = eqb (x % 2) 1
flag (suc j) x = flag j (x / 2)

-- the entry x with flag j
unfoldable pub with_flag : ℕ → ℕ → ℕ
unfolding weight flag
with_flag j x = cond (flag j x) x (x + weight j)

-- whether the table has the flag of the key; none is past the end
unfoldable pub flagged : ℕ → List ℕ → ℕ → Bool
unfolding flag
flagged n t k = flag (k % n) (get_or t (k / n) 0)

-- the table after one place, where y stands: if it is a's and on, its key is flagged; nothing past the end
unfoldable pub after_flag : {P : Type 0} → ℕ → (P → ℕ) → ℕ → (P → ℕ) → (P → Bool) → P → List ℕ → List ℕ
unfolding after_place with_flag
after_flag n csd a key on y t = after_place csd a (λ p. key p / n) on (λ p m. with_flag (key p % n) m) y t
