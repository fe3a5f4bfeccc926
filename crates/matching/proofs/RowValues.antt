-- Laws of a row's values: that each value is met exactly as the written meaning asks.
use Prim.Native.Nat.{ℕ, zero, suc}
use mathlib.Core.Path.{◌≡◌, refl, ap, sym, ◌∙◌}
use mathlib.Core.Bool.{Bool, true, false, ◌&&◌, ◌||◌, and-true, and-false, true≢false}
use mathlib.Core.List.{List, [], ◌∷◌}
use native.Mathlib.Omega.{arith}
use lib.Dec.{eqb}
use lib.ListN.{length, get_or}
use borrow.Author.Tests.{ne_eqb}
use Rattle.tables.specs.Count.{all_below}
use Rattle.meaning.specs.Judging.{meets_all}
use Rattle.matching.specs.MatchedRows.{test_at, values_met}

and_assoc : (a b d : Bool) → ((a && b) && d) ≡ (a && (b && d))
and_assoc true b d = refl
and_assoc false b d = refl

all_first : (p : ℕ → Bool) (n : ℕ) → all_below p (suc n) ≡ (p 0 && all_below (λ i. p (suc i)) n)
unfolding all_below
all_first p zero = sym (and-true (p 0))
all_first p (suc n) = rw (all_first p n) (and_assoc (p 0) (all_below (λ i. p (suc i)) n) (p (suc n)))

-- The written meaning's test of a row's values, value by value.
each_met : (fs : List (ℕ → Bool)) (vs : List ℕ) → length fs ≡ length vs
    → meets_all fs vs ≡ all_below (λ i. eqb (get_or vs i 0) 0 || test_at fs i (get_or vs i 0)) (length vs)
unfolding all_below test_at
each_met [] [] e = refl
each_met [] (v ∷ vs) e = absurd (omega arith)
each_met (f ∷ fs) [] e = refl
each_met (f ∷ fs) (zero ∷ vs) e = rw all_first (each_met fs vs (omega arith))
each_met (f ∷ fs) (suc v ∷ vs) e =
    rw (all_first, ne_eqb (suc v) 0 (λ z. omega arith)) (ap (λ t. f (suc v) && t) (each_met fs vs (omega arith)))

pub row_met : (fs : List (ℕ → Bool)) (vs : List ℕ) → length fs ≡ 10 → length vs ≡ 10 → values_met fs vs ≡ meets_all fs vs
unfolding values_met
row_met fs vs a b =
    sym (each_met fs vs (a ∙ sym b) ∙ ap (λ n. all_below (λ i. eqb (get_or vs i 0) 0 || test_at fs i (get_or vs i 0)) n) b)

-- ---- the codes are asked last, and only where the rest is met: x are the tests before them, m the one behind

pub codes_asked : (x m a b c : Bool) → (x && m) ≡ true → (a && b && c) ≡ (x && a && b && c && m)
codes_asked true true a b c e = sym (and-true (a && b && c))
codes_asked true false a b c e = absurd (true≢false (sym e))
codes_asked false m a b c e = absurd (true≢false (sym e))

pub codes_unasked : (x m a b c : Bool) → (x && m) ≡ false → (x && m) ≡ (x && a && b && c && m)
codes_unasked true true a b c e = absurd (true≢false e)
codes_unasked true false a b c e = sym (and-false (a && b && c))
codes_unasked false m a b c e = refl
