-- The types that a kept instruction remembers (document 02, request d), as 13 bytes: the bit of type t is bit t % 8 of
-- the byte at t / 8. The bits 0 and 100 to 103 are no type's and are zero in a sound record. Assumes nothing.
use Rattle.std.specs.Prelude.{ℕ, zero, suc, ◌/◌, ◌%◌, ◌≡◌, Bool, not, cond, ◌&&◌, List, [], ◌∷◌, ltb, length, get_or, set}
use Rattle.tables.specs.Count.{every, keep}
use Rattle.tables.specs.Keyed.{marked}
use Rattle.marks.specs.Flags.{with_flag, flagged}
use Rattle.meaning.specs.Pending.{numbers_from}

-- whether the bytes have the bit of type t; none is past the end
unfoldable pub bit_of : List ℕ → ℕ → Bool
unfolding flagged
bit_of m t = flagged 8 m t

-- the numbers that the bytes say, rising
unfoldable pub types_in : List ℕ → List ℕ
unfolding bit_of keep
types_in m = keep (bit_of m) (numbers_from 0 104)

-- the bits of these numbers are off
unfoldable pub all_off : List ℕ → List ℕ → Bool
unfolding bit_of every
all_off m l = every (λ t. not (bit_of m t)) l

-- no bit is on that is no type's
unfoldable pub spare_clear : List ℕ → Bool
unfolding all_off
spare_clear m = all_off m (0 ∷ 100 ∷ 101 ∷ 102 ∷ 103 ∷ [])

-- the numbers below 100 whose bits the bytes have
unfoldable pub type_bits : List ℕ → ℕ → Bool
unfolding bit_of
type_bits m n = ltb n 100 && bit_of m n

-- the bytes with the bit of type t, where asked
unfoldable pub with_type : List ℕ → ℕ → Bool → List ℕ
unfolding with_flag
with_type m t on = cond on (set m (t / 8) (with_flag (t % 8) (get_or m (t / 8) 0))) m

-- the bytes with the bits of the numbers 1 to n that pass a test
unfoldable pub with_types_to : ℕ → List ℕ → (ℕ → Bool) → List ℕ
unfolding with_type
with_types_to zero m on = m
with_types_to (suc n) m on = with_type (with_types_to n m on) (suc n) (on (suc n))

-- of those that a type may have
unfoldable pub with_types : List ℕ → (ℕ → Bool) → List ℕ
unfolding with_types_to
with_types m on = with_types_to 99 m on

-- marks by number, as the bits of the numbers below n are
pub record MarksTo (m marks : List ℕ) (n : ℕ) : Type 0 where
  pub long : length marks ≡ 100
  pub each : (k : ℕ) → marked marks k ≡ (ltb k n && bit_of m k)
