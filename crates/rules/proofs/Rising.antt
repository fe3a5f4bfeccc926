-- Where each rule stands at the place of its sequence, the search finds the least sequence of a positive rule.
-- Assumes nothing.
use Prim.Native.Nat.{ℕ, zero, suc, ◌+◌, ◌-◌, ◌≤◌, ◌<◌}
use mathlib.Core.Path.{◌≡◌, refl, ap, sym, ◌∙◌}
use mathlib.Core.Bool.{Bool, true, false, cond}
use mathlib.Core.List.{List}
use native.Mathlib.Omega.{arith}
use lib.Dec.{eqb}
use borrow.Author.Tests.{ne_eqb}
use lib.ListN.{length, get_or, drop}
use Rattle.tables.specs.Count.{lesser}
use Rattle.tables.specs.Below.{least_below}
use Rattle.tables.proofs.Below.{least_more, lesser_only, lesser_high}
use Rattle.tables.proofs.Counts.{cases}
use Rattle.std.specs.Prelude.{Option, Some, None}
use Rattle.rules.specs.Search.{first_positive, sequence_of}
use Rattle.rules.specs.declared.ListedRule.{ListedRule}
use Rattle.rules.proofs.Turns.{deciding, or_next, turn, passes, ended}

-- One place more: l is the least sequence before place i, s what is found from it on, s' what is found after it.
more : (a : Bool) (i l s s' n : ℕ) → l ≤ i → (a ≡ true → (1 ≤ i) × (s ≡ i)) → (a ≡ false → s ≡ s')
    → cond (eqb (lesser (cond a i 0) l) 0) s' (lesser (cond a i 0) l) ≡ n → cond (eqb l 0) s l ≡ n
more true i zero s s' n h at on e = (at refl).1 ∙ (rw (sym (lesser_only i 0 refl), ne_eqb i 0 (λ z. let o = (at refl).0 in omega arith)) at e)
more true i (suc l) s s' n h at on e = rw (ne_eqb (suc l) 0 (λ z. omega arith)) (rw (sym (lesser_high i (suc l) (omega arith) h), ne_eqb (suc l) 0 (λ z. omega arith)) at e)
more false i zero s s' n h at on e = on refl ∙ e
more false i (suc l) s s' n h at on e = rw (ne_eqb (suc l) 0 (λ z. omega arith)) (rw (ne_eqb (suc l) 0 (λ z. omega arith)) at e)

whole : (n : ℕ) → cond (eqb n 0) 0 n ≡ n
whole zero = refl
whole (suc n) = rw (ne_eqb (suc n) 0 (λ z. omega arith))

-- p says of each sequence from 1 whether the rule there is positive. None stands at place 0: no rule has sequence 0.
module _ (t : List (Option ListedRule)) (p : ℕ → Bool) (none : get_or t 0 None ≡ None) (may : (k : ℕ) → 1 ≤ k → k < length t → deciding (get_or t k None) ≡ cond (p k) (Some k) None) where
  least : ℕ → ℕ
  least n = least_below (λ s. cond (p s) s 0) n

  low : (n : ℕ) → least n ≤ n
  unfolding least least_below
  low zero = omega arith
  low (suc n) = below (cond (p n) n 0) (least_below (λ s. cond (p s) s 0) n) (of (p n)) (low n)
    where
      of : (a : Bool) → cond a n 0 ≤ n
      of true = omega arith
      of false = omega arith

      below : (a b : ℕ) → a ≤ n → b ≤ n → lesser a b ≤ suc n
      below zero b h k = omega arith
      below (suc a) zero h k = omega arith
      below (suc a) (suc b) h k = omega arith

  at_zero : least 1 ≡ 0
  unfolding least least_below
  at_zero = cases (p 0) (λ e. rw e) (λ e. rw e)

  -- what is found from place i on, by whether the rule there is positive
  here : (i : ℕ) (v : Bool) → 1 ≤ i → i < length t → p i ≡ v
      → first_positive (drop i t) ≡ or_next (cond v (Some i) None) (first_positive (drop (i + 1) t))
  here i v o l y =
      turn t i l ∙ ap (λ z. or_next z (first_positive (drop (i + 1) t))) (may i o l ∙ ap (λ z. cond z (Some i) None) y)

  -- what is found from place i on, unless one before it was found
  from : (m i : ℕ) → 1 ≤ i → i + m ≡ length t
      → cond (eqb (least i) 0) (sequence_of (first_positive (drop i t))) (least i) ≡ least (length t)
  unfolding least or_next
  from zero i o e =
      let all : i ≡ length t = omega arith in
      rw (sym (ended t i (omega arith))) (whole (least i) ∙ ap least all)
  from (suc m) i o e =
      more (p i) i (least i) _ _ _ (low i)
      (λ y. (o, ap sequence_of (here i true o (omega arith) y)))
      (λ y. ap sequence_of (here i false o (omega arith) y))
      (rw least_more at (from m (i + 1) (omega arith) (omega arith)))

  pub rising : 1 ≤ length t → sequence_of (first_positive t) ≡ least_below (λ s. cond (p s) s 0) (length t)
  unfolding least
  rising o = ap sequence_of (sym (passes t 0 o none)) ∙ (rw at_zero at (from (length t - 1) 1 (omega arith) (omega arith)))
