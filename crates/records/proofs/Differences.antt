-- Laws of `first_difference`: below it two lists agree, there they differ, and where it is their length they are the
-- same. They serve 'the same row' and an order of rows by their values.
use Prim.Native.Nat.{ℕ, zero, suc, ◌<◌}
use mathlib.Core.Path.{◌≡◌, refl, sym, ◌∙◌, ap, ap₂}
use mathlib.Core.List.{List, [], ◌∷◌}
use native.Mathlib.Omega.{arith}
use lib.Dec.{eqb}
use lib.ListN.{length, get_or}
use borrow.Author.Tests.{eq-eqb, ne_eqb, eqb-true}
use Rattle.tables.proofs.Counts.{cases_eq, agree}
use Rattle.meaning.specs.Text.{same}
use Rattle.meaning.proofs.SameLists.{same_self, same_numbers}
use Rattle.records.specs.Values.{first_difference}

-- ---- what the loop finds

-- An index at which they differ, below which they agree.
pub differ_at : (u v : List ℕ) (i : ℕ) → ((k : ℕ) → k < i → get_or u k 0 ≡ get_or v k 0) → (get_or u i 0 ≡ get_or v i 0 → ⊥)
    → i < length u → i < length v → i ≡ first_difference u v
unfolding first_difference
differ_at [] v i a d l m = absurd (omega arith)
differ_at (x ∷ u) [] i a d l m = absurd (omega arith)
differ_at (x ∷ u) (y ∷ v) zero a d l m = rw (ne_eqb x y d)
differ_at (x ∷ u) (y ∷ v) (suc i) a d l m =
    rw (eq-eqb x y (a 0 (omega arith)))
    (ap suc (differ_at u v i (λ k h. a (suc k) (omega arith)) d (omega arith) (omega arith)))

-- No such index.
pub agree_to : (u v : List ℕ) (n : ℕ) → ((k : ℕ) → k < n → get_or u k 0 ≡ get_or v k 0) → length u ≡ n → length v ≡ n
    → n ≡ first_difference u v
unfolding first_difference
agree_to [] [] n a l m = omega arith
agree_to [] (y ∷ v) n a l m = absurd (omega arith)
agree_to (x ∷ u) [] n a l m = absurd (omega arith)
agree_to (x ∷ u) (y ∷ v) zero a l m = absurd (omega arith)
agree_to (x ∷ u) (y ∷ v) (suc n) a l m =
    rw (eq-eqb x y (a 0 (omega arith)))
    (ap suc (agree_to u v n (λ k h. a (suc k) (omega arith)) (omega arith) (omega arith)))

-- ---- for both uses

pub record Difference (u v : List ℕ) (r : ℕ) : Type 0 where
  pub below : (k : ℕ) → k < r → get_or u k 0 ≡ get_or v k 0
  pub there : r < length u → get_or u r 0 ≡ get_or v r 0 → ⊥
  pub none : r ≡ length u → u ≡ v

pub difference : (u v : List ℕ) → length u ≡ length v → Difference u v (first_difference u v)
unfolding first_difference
difference [] [] l = record { below = λ k h. absurd (omega arith); there = λ h. absurd (omega arith); none = λ e. refl }
difference [] (y ∷ v) l = absurd (omega arith)
difference (x ∷ u) [] l = absurd (omega arith)
difference (x ∷ u) (y ∷ v) l =
    cases_eq x y
    (λ e. rw (eq-eqb x y e) (next e (difference u v (omega arith))))
    (λ d.
    rw (ne_eqb x y d)
    (record { below = λ k h. absurd (omega arith); there = λ h. d; none = λ e. absurd (omega arith) }))
  where
    next : x ≡ y → Difference u v (first_difference u v) → Difference (x ∷ u) (y ∷ v) (suc (first_difference u v))
    next e d = record { below = under; there = λ h. d.there (omega arith); none = λ h. ap₂ ◌∷◌ e (d.none (omega arith)) }
      where
        under : (k : ℕ) → k < suc (first_difference u v) → get_or (x ∷ u) k 0 ≡ get_or (y ∷ v) k 0
        under zero h = e
        under (suc k) h = d.below k (omega arith)

-- ---- the same row

pub same_first : (u v : List ℕ) (n r : ℕ) → r ≡ first_difference u v → length u ≡ n → length v ≡ n → eqb r n ≡ same u v
same_first u v n r e l m =
    agree (eqb r n) (same u v)
    (λ t. rw ((difference u v (l ∙ sym m)).none (sym e ∙ eqb-true r n t ∙ sym l)) (same_self v))
    (λ t. eq-eqb r n (e ∙ sym (agree_to u v n (λ k h. ap (λ w. get_or w k 0) (same_numbers u v t)) l m)))
