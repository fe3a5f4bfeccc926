-- What one turn of the search does to the definition: a positive rule is the answer, else the rest is searched, and
-- past the end there is nothing.
use mathlib.Core.Path.{◌≡◌, refl, sym, ap, ◌∙◌}
use mathlib.Core.Bool.{Bool, true, false, cond}
use mathlib.Core.List.{List, ◌∷◌}
use Rattle.std.specs.Prelude.{Option, Some, None}
use Prim.Native.Nat.{ℕ, suc, ◌+◌, ◌<◌, ◌≤◌}
use native.Mathlib.Numerals.{add-one}
use lib.ListN.{length, get_or, drop, drop_of_length-le}
use lib.Seq.{drop-cons}
use Rattle.tables.proofs.Counts.{cases}
use Rattle.rules.specs.Search.{may_decide, first_positive}
use Rattle.rules.specs.declared.ListedRule.{ListedRule}

-- ---- the search, from place i on

-- the sequence of a rule that is listed and positive
unfoldable pub deciding : Option ListedRule → Option ℕ
deciding None = None
deciding (Some r) = cond (may_decide r) (Some r.sequence) None

-- the first of two that is there
unfoldable pub or_next : Option ℕ → Option ℕ → Option ℕ
or_next None s = s
or_next (Some n) s = Some n

first_cons : (o : Option ListedRule) (rs : List (Option ListedRule))
    → first_positive (o ∷ rs) ≡ or_next (deciding o) (first_positive rs)
unfolding first_positive deciding or_next
first_cons None rs = refl
first_cons (Some r) rs = cases (may_decide r) (λ e. rw e) (λ e. rw e)

module _ (ys : List (Option ListedRule)) (i : ℕ) (l : i < length ys) where
  pub turn : first_positive (drop i ys) ≡ or_next (deciding (get_or ys i None)) (first_positive (drop (i + 1) ys))
  turn =
      ap first_positive (drop-cons ys i None l)
      ∙ first_cons (get_or ys i None) (drop (suc i) ys)
      ∙ ap (λ (k : ℕ). or_next (deciding (get_or ys i None)) (first_positive (drop k ys))) (sym (add-one i))

  module _ (r : ListedRule) (there : get_or ys i None ≡ Some r) where
    pub hits : may_decide r ≡ true → Some r.sequence ≡ first_positive (drop i ys)
    unfolding deciding or_next
    hits h = sym (turn ∙ rw (there, h) refl)

    pub misses : may_decide r ≡ false → first_positive (drop (i + 1) ys) ≡ first_positive (drop i ys)
    unfolding deciding or_next
    misses h = sym (turn ∙ rw (there, h) refl)

  pub passes : get_or ys i None ≡ None → first_positive (drop (i + 1) ys) ≡ first_positive (drop i ys)
  unfolding deciding or_next
  passes e = sym (turn ∙ rw e refl)

pub ended : (ys : List (Option ListedRule)) (i : ℕ) → length ys ≤ i → None ≡ first_positive (drop i ys)
unfolding first_positive
ended ys i h = sym (ap first_positive (drop_of_length-le ys h))
