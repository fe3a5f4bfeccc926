-- A book of no records: every number of it is 0, and no depository's list has a record.
use Prim.Native.Nat.{ℕ, zero, suc, ◌+◌, ◌≤◌}
use mathlib.Core.Path.{◌≡◌, refl, ap₂}
use mathlib.Core.List.{List, [], ◌∷◌}
use native.Mathlib.Omega.{arith}
use lib.ListN.{length, replicate, length-replicate}
use borrow.Author.Tests.{ne_eqb}
use Rattle.tables.specs.Count.{lone}
use Rattle.tables.specs.Bytes.{byte_at, Width, one, two, three, four, size, number, numbers, zeros}

pub length_zeros : (n : ℕ) → length (zeros n) ≡ n
unfolding zeros
length_zeros n = length-replicate n 0

pub byte_zeros : (n i : ℕ) → byte_at (zeros n) i ≡ 0
unfolding zeros
byte_zeros zero i = refl
byte_zeros (suc n) zero = refl
byte_zeros (suc n) (suc i) = byte_zeros n i

number_zeros : (w : Width) (n at j : ℕ) → number w (zeros n) at j ≡ 0
number_zeros one n at j = byte_zeros n (at + j)
number_zeros two n at j = omega (arith, byte_zeros n (at + j), byte_zeros n (at + (j + 1)))
number_zeros three n at j =
    omega (arith, byte_zeros n (at + j), byte_zeros n (at + (j + 1)), byte_zeros n (at + (j + 2)))
number_zeros four n at j =
    omega (arith, byte_zeros n (at + j), byte_zeros n (at + (j + 1)), byte_zeros n (at + (j + 2)), byte_zeros n (at + (j + 3)))

pub numbers_zeros : (ws : List Width) (n at j : ℕ) → numbers ws (zeros n) at j ≡ replicate (length ws) 0
numbers_zeros [] n at j = refl
numbers_zeros (w ∷ ws) n at j = ap₂ (λ (x : ℕ) (l : List ℕ). x ∷ l) (number_zeros w n at j) (numbers_zeros ws n at (j + size w))

-- Where every place is free, a depository's list is empty.
pub lone_none : {P R : Type 0} (csd : P → ℕ) (rec : P → R) (a : ℕ) (at : ℕ → P) (n : ℕ) → 1 ≤ a
    → ((k : ℕ) → csd (at k) ≡ 0) → lone csd rec a at n ≡ []
unfolding lone
lone_none csd rec a at zero l h = refl
lone_none csd rec a at (suc n) l h = rw (ne_eqb (csd (at n)) a (λ e. omega (arith, h n))) (lone_none csd rec a at n l h)
