-- A rule without rows applies to no question: entered or taken out, it changes no answer.
use Rattle.std.proofs.Common.{ℕ, ◌≡◌, refl, ap, sym, ◌∙◌, true, false, not, List, ◌∷◌}
use Rattle.tables.specs.Count.{has, every, without, least}
use Rattle.tables.proofs.Lists.{has_cons}
use Rattle.tables.proofs.Least.{has_keep, least_keep}
use Rattle.meaning.specs.Records.{Rule, Book, Question, add_rule, delete_rule, positive}
use Rattle.meaning.specs.Keys.{is_rule, of_rule}
use Rattle.meaning.specs.Refusals.{conditions}
use Rattle.meaning.specs.Edits.{with_rules, edited}
use Rattle.meaning.specs.Judging.{tests, matches, rule_applies, deciding, judged}
use Rattle.meaning.specs.Exercise.{WithoutRowsEntered, WithoutRowsDeleted}
use Rattle.meaning.specs.declared.Refusal.TheVariants.{AlreadyHeld, Conflict}
use Rattle.meaning.proofs.First.{command_not_refused}
use Rattle.meaning.proofs.Keys.{rule_self}
use Rattle.meaning.proofs.Listed.{not_so}
use Rattle.meaning.proofs.Good.{good_of_sound}
use Rattle.meaning.proofs.KeptOrder.{no_rows}
use Rattle.meaning.proofs.ExerciseLines.{accepted}
use Rattle.meaning.proofs.ExerciseVerdict.{judged_alike}
use Rattle.meaning.proofs.ExerciseMoved.{has_row, applied_matches}

-- other rules of which the same apply
module _ (b : Book) (q : Question) (rules : List Rule)
    (some : (type sign : ℕ) → has (rule_applies b q type sign) rules ≡ has (rule_applies b q type sign) b.rules)
    (first : (type : ℕ) → least (λ r. r.sequence) (rule_applies b q type positive) rules ≡ deciding b q type) where
  rules_apply : (type sign : ℕ)
      → has (rule_applies (with_rules rules b) q type sign) rules ≡ has (rule_applies b q type sign) b.rules
  unfolding rule_applies matches tests
  rules_apply = some

  rule_decides : (type : ℕ) → deciding (with_rules rules b) q type ≡ deciding b q type
  unfolding deciding rule_applies matches tests
  rule_decides type = first type

  rules_judge : judged (with_rules rules b) q ≡ judged b q
  rules_judge = judged_alike b (with_rules rules b) q refl rules_apply rule_decides

-- no row, so it does not apply
unapplied : (b : Book) (q : Question) (n o s : ℕ) → has (of_rule n o s) b.rows ≡ false → (type sign : ℕ) (x : Rule)
    → is_rule n o s x ≡ true → rule_applies b q type sign x ≡ false
unapplied b q n o s none type sign x t =
    not_so (rule_applies b q type sign x) _ none (λ e. has_row b q n o s x t (applied_matches b q type sign x e))

pub without_rows_entered : WithoutRowsEntered
unfolding conditions edited every deciding least
without_rows_entered b e day r lines t q =
    let (f, z, l) = accepted t in
    let free = command_not_refused b (add_rule day r) z AlreadyHeld in
    let none = no_rows b (good_of_sound b e).lists r.type r.object r.sequence free in
    let no : (type sign : ℕ) → rule_applies b q type sign r ≡ false =
    λ type sign. unapplied b q r.type r.object r.sequence none type sign r (rule_self r) in
    ap (λ c. judged c q) l
    ∙ rules_judge b q (r ∷ b.rules) (λ type sign. has_cons (rule_applies b q type sign) r b.rules ∙ rw (no type sign))
    (λ type. rw (no type positive))

pub without_rows_deleted : WithoutRowsDeleted
unfolding conditions edited every deciding without
without_rows_deleted b n o s lines t q =
    let (f, z, l) = accepted t in
    let none = command_not_refused b (delete_rule n o s) z Conflict in
    let stays : (type sign : ℕ) (x : Rule) → rule_applies b q type sign x ≡ true → not (is_rule n o s x) ≡ true =
    λ type sign x p. ap not (not_so (is_rule n o s x) false refl (λ y. sym (unapplied b q n o s none type sign x y) ∙ p)) in
    ap (λ c. judged c q) l
    ∙ rules_judge b q (without (is_rule n o s) b.rules)
    (λ type sign. has_keep (rule_applies b q type sign) (λ x. not (is_rule n o s x)) b.rules (stays type sign))
    (λ type. least_keep (λ r. r.sequence) (rule_applies b q type positive) (λ x. not (is_rule n o s x)) b.rules (stays type positive))
