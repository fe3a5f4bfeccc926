-- Which place of a table is a depository's next. A free place is depository 0's. Assumes nothing.
use Rattle.std.specs.Prelude.{ℕ, zero, suc, ◌+◌, ◌*◌, ◌-◌, ◌≤◌, ◌<◌, ◌≡◌, Bool, false, cond, List, eqb, leb, ltb, Option, Some, None}
use Rattle.tables.specs.Bytes.{byte_at}

-- the first of n places from place i on where p holds; i + n where there is none
unfoldable pub first_from : (ℕ → Bool) → ℕ → ℕ → ℕ
first_from p i zero = i
first_from p i (suc n) = cond (p i) i (first_from p (i + 1) n)

-- the first place from place i on where p holds, of a table of that many places; the number of places where there is
-- none
unfoldable pub next : (ℕ → Bool) → ℕ → ℕ → ℕ
next p places i = cond (leb i places) (first_from p i (places - i)) places

-- p holds at no place from i on below k
abbrev pub Passed : (ℕ → Bool) → ℕ → ℕ → Type 0
Passed p i k = (j : ℕ) → i ≤ j → j < k → p j ≡ false

-- place k is depository a's, by its first byte: the table starts at an address, and its places have a width
abbrev pub owned : List ℕ → ℕ → ℕ → ℕ → ℕ → Bool
owned b start width a k = eqb (byte_at b (start + k * width)) a

-- place k of a table of that many places, if it has it
unfoldable pub place_if : ℕ → ℕ → Option ℕ
place_if places k = cond (ltb k places) (Some k) None
