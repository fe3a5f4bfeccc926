-- On a day that a rule's period and its type's both hold, questions are judged as if the rule lay within its type; on
-- any other day it does not count.
use Rattle.std.proofs.Common.{ℕ, ◌≡◌, refl, ◌∙◌, Bool, true, cond, not, ◌&&◌, ◌||◌, eqb}
use mathlib.Core.Bool.{and-false}
use Rattle.tables.specs.Count.{has, every, change}
use Rattle.tables.proofs.Counts.{cases}
use Rattle.tables.proofs.Least.{has_agree, has_alter, least_alter, least_agree}
use Rattle.meaning.specs.Records.{TypeRecord, Rule, Book, Question, positive}
use Rattle.meaning.specs.Keys.{is_rule}
use Rattle.meaning.specs.Judging.{covers, tests, matches, rule_applies, applies, deciding}
use Rattle.meaning.proofs.ExerciseVerdict.{judged_alike}
use Rattle.meaning.specs.Within.{rule_days, with_types_period, KeepsWorking, AppliesWithin}

module _ (b : Book) (t : TypeRecord) (s : ℕ) (q : Question) (now : covers t.first t.last q.day ≡ true) where
  abbrev here : Rule → Bool
  here r = not (is_rule t.type t.object s r) || covers r.first r.last q.day

  -- the rule, with the type's period if it is the one named
  abbrev changed : Rule → Rule
  changed r = cond (is_rule t.type t.object s r) (rule_days t.first t.last r) r

  abbrev changed_book : Book
  changed_book = with_types_period t s b

  same_sequence : (r : Rule) → (changed r).sequence ≡ r.sequence
  same_sequence r = cases (is_rule t.type t.object s r) (λ e. rw e) (λ e. rw e)

  applies_changed : (type sign : ℕ) (r : Rule) → here r ≡ true
      → rule_applies changed_book q type sign (changed r) ≡ rule_applies b q type sign r
  unfolding rule_applies matches tests
  applies_changed type sign r h =
      cases (is_rule t.type t.object s r)
      (λ e. let held : covers r.first r.last q.day ≡ true = rw e at h in rw (e, now, held))
      (λ e. rw e)

  module _ (held : every here b.rules ≡ true) where
    some_changed : (type sign : ℕ)
        → has (rule_applies changed_book q type sign) changed_book.rules ≡ has (rule_applies b q type sign) b.rules
    unfolding change
    some_changed type sign =
        has_alter (rule_applies changed_book q type sign) changed b.rules
        ∙ has_agree here _ _ b.rules held (applies_changed type sign)

    deciding_changed : (type : ℕ) → deciding changed_book q type ≡ deciding b q type
    unfolding deciding change
    deciding_changed type =
        least_alter (λ r. r.sequence) (rule_applies changed_book q type positive) changed b.rules
        ∙ least_agree here _ _ _ _ b.rules held (applies_changed type positive) (λ r e z. same_sequence r)

pub keeps_working : KeepsWorking
keeps_working b t s q now held =
    judged_alike b (with_types_period t s b) q refl (some_changed b t s q now held) (deciding_changed b t s q now held)

pub applies_within : AppliesWithin
unfolding applies rule_applies
applies_within = record {
  types = λ b q processing t e. rw (e, and-false (eqb t.object q.object && eqb t.processing processing));
  rules = λ b q type sign r e.
      rw (e, and-false (eqb r.type type && eqb r.object q.object && eqb r.sign sign));
}
