-- What the returns of the functions on the rules of one type leave to show: the list by sequence, and the first rule
-- that it gives.
use Rattle.std.proofs.Common.{ℕ, ◌+◌, ◌≤◌, ◌<◌, ◌≡◌, refl, ap, ◌∙◌, Bool, true, false, ◌&&◌, ◌||◌, cond, List, Option, Some, None, unwrap_or, arith, eqb, length, get_or, set, length-set, get_or-set_same, get_or-set_other}
use lib.ListN.{length-replicate, get_or-replicate}
use Rattle.tables.specs.Below.{least_below}
use Rattle.tables.proofs.Counts.{cases_eq}
use Rattle.meaning.specs.Records.{positive, negative}
use Rattle.rules.specs.Search.{first_positive, sequence_of}
use Rattle.rules.specs.declared.ListedRule.{ListedRule}
use Rattle.rules.proofs.Turns.{deciding}
use Rattle.rules.proofs.Rising.{rising}
use Rattle.judge.specs.Stages.{sequences, sign_key, judged_rule, none_listed, Listed, first_rule}

module _ (rules : ℕ → Bool) where
  -- ---- the list, one sequence after the other

  pub listed_none : (t : List (Option ListedRule)) → t ≡ none_listed → Listed rules 1 t
  unfolding none_listed
  listed_none t e = record {
    long = ap length e ∙ length-replicate {A = Option ListedRule} sequences None;
    none = ap (λ l. get_or l 0 None) e ∙ get_or-replicate {A = Option ListedRule} sequences 0 None None (omega arith);
    each = λ s o l. absurd (omega arith);
  }

  pub listed_more : (t u : List (Option ListedRule)) (s : ℕ) (r : Option ListedRule) → u ≡ set t s r → r ≡ judged_rule rules s
      → Listed rules s t → 1 ≤ s → s < sequences → Listed rules (s + 1) u
  listed_more t u s r eu er m o l = record {
    long = ap length eu ∙ length-set t s r ∙ m.long;
    none = ap (λ l. get_or l 0 None) eu ∙ get_or-set_other t s 0 r None (λ z. omega arith) ∙ m.none;
    each =
        λ k ok lk.
        ap (λ l. get_or l k None) eu
        ∙ cases_eq k s
        (λ e. rw e (get_or-set_same t s r None (omega (arith, m.long)) ∙ er))
        (λ d. get_or-set_other t s k r None d ∙ m.each k ok (omega arith));
  }

  -- ---- the first rule

  may : (a b : Bool) (s : ℕ)
      → deciding (cond a (Some (record { sequence = s; sign = positive })) (cond b (Some (record { sequence = s; sign = negative })) None))
      ≡ cond a (Some s) None
  unfolding deciding
  may true b s = refl
  may false true s = refl
  may false false s = refl

  pub first_by : (t : List (Option ListedRule)) (f : Option ℕ) → f ≡ first_positive t → Listed rules sequences t
      → unwrap_or f 0 ≡ first_rule rules
  unfolding first_rule
  first_by t f d m =
      ap sequence_of d
      ∙ rising t (λ s. rules (sign_key s positive)) m.none
      (λ s o l. ap deciding (m.each s o (omega (arith, m.long))) ∙ may (rules (sign_key s positive)) (rules (sign_key s negative)) s)
      (omega (arith, m.long))
      ∙ ap (least_below (λ s. cond (rules (sign_key s positive)) s 0)) m.long
