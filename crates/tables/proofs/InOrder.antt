-- Tables one after the other do not meet.
use Prim.Native.Nat.{ℕ, zero, suc, ◌+◌, ◌≤◌, ◌<◌}
use mathlib.Core.Path.{◌≡◌}
use mathlib.Core.List.{List, [], ◌∷◌}
use mathlib.Core.Logic.{◌⊎◌, inl, inr}
use native.Mathlib.Omega.{arith}
use lib.Dec.{ltb}
use lib.ListN.{length, get_or}
use borrow.Author.Tests.{ltb-true, ltb-false}
use Rattle.tables.specs.Table.{start_of}
use Rattle.tables.proofs.Counts.{cases, cases_eq}

pub ends_before : (l : List ℕ) (m n : ℕ) → m < n → n ≤ length l → start_of l m + get_or l m 0 ≤ start_of l n
unfolding start_of
ends_before [] m n h e = absurd (omega arith)
ends_before (s ∷ l) m zero h e = absurd (omega arith)
ends_before (s ∷ l) zero (suc n) h e = omega arith
ends_before (s ∷ l) (suc m) (suc n) h e = omega (arith, ends_before l m n (omega arith) (omega arith))

pub one_first : (l : List ℕ) (m n : ℕ) → m < length l → n < length l → (m ≡ n → ⊥)
    → (start_of l m + get_or l m 0 ≤ start_of l n) ⊎ (start_of l n + get_or l n 0 ≤ start_of l m)
one_first l m n h k d =
    cases (ltb m n)
    (λ e. inl (ends_before l m n (ltb-true m n e) (omega arith)))
    (λ e. inr (ends_before l n m (cases_eq m n (λ z. absurd (d z)) (λ z. omega (arith, ltb-false m n e))) (omega arith)))
