-- The order of a lone book's records carries no meaning for what is asked of it: books with the same records judge
-- every question alike.
use Rattle.std.proofs.Common.{ℕ, zero, suc, ◌≡◌, refl, ap, ap₂, ◌∙◌, Bool, not, ◌&&◌, eqb}
use mathlib.Core.Path.{fun_ext}
use Rattle.tables.specs.Count.{has, least}
use Rattle.tables.proofs.Lists.{same_has, same_least}
use Rattle.meaning.specs.Records.{TypeRecord, Rule, Row, Period, Book, Question, positive, negative, party, account, security, rejection, validation_hold, party_hold}
use Rattle.meaning.specs.Keys.{of_rule}
use Rattle.meaning.specs.Judging.{covers, meets_all, has_code, tests, matches, rule_applies, applies, named, deciding, decided, verdict, judged}
use Rattle.meaning.specs.SameBook.{SameBook}

-- where a rule of each type and sign applies in both books or in neither, the same types apply
pub applies_alike : (b c : Book) (q : Question)
    → ((type sign : ℕ) → has (rule_applies b q type sign) b.rules ≡ has (rule_applies c q type sign) c.rules)
    → (processing : ℕ) → applies b q processing ≡ applies c q processing
unfolding applies
applies_alike b c q alike processing =
    fun_ext (λ t.
    ap₂
    (λ spoken exempt.
    eqb t.object q.object && eqb t.processing processing && covers t.first t.last q.day && spoken && not exempt)
    (alike t.type positive) (alike t.type negative))

module _ (b c : Book) (s : SameBook b c) where
  -- what is asked of each list
  pub types_has : (p : TypeRecord → Bool) → has p b.types ≡ has p c.types
  types_has p = same_has p b.types c.types s.types

  pub rules_has : (p : Rule → Bool) → has p b.rules ≡ has p c.rules
  rules_has p = same_has p b.rules c.rules s.rules

  pub rows_has : (p : Row → Bool) → has p b.rows ≡ has p c.rows
  rows_has p = same_has p b.rows c.rows s.rows

  pub periods_has : (p : Period → Bool) → has p b.periods ≡ has p c.periods
  periods_has p = same_has p b.periods c.periods s.periods

  module _ (q : Question) where
    has_code_same : (kind number : ℕ) → has_code b q kind number ≡ has_code c q kind number
    unfolding has_code
    has_code_same kind number = fun_ext (λ code. periods_has _)

    tests_same : tests b q ≡ tests c q
    unfolding tests
    tests_same = rw (has_code_same party q.party, has_code_same account q.account, has_code_same security q.security)

    matches_same : (r : Rule) → matches b q r ≡ matches c q r
    unfolding matches
    matches_same r =
        rows_has _
        ∙ ap (λ ts. has (λ w. of_rule r.type r.object r.sequence w && meets_all ts w.values) c.rows) tests_same

    rule_applies_same : (type sign : ℕ) → rule_applies b q type sign ≡ rule_applies c q type sign
    unfolding rule_applies
    rule_applies_same type sign =
        fun_ext (λ r.
        ap
        (λ m. eqb r.type type && eqb r.object q.object && eqb r.sign sign && covers r.first r.last q.day && m)
        (matches_same r))

    pub some_rule_applies_same : (type sign : ℕ) → has (rule_applies b q type sign) b.rules ≡ has (rule_applies c q type sign) c.rules
    some_rule_applies_same type sign = rules_has _ ∙ ap (λ p. has p c.rules) (rule_applies_same type sign)

    applies_same : (processing : ℕ) → applies b q processing ≡ applies c q processing
    applies_same = applies_alike b c q some_rule_applies_same

    named_same : (processing : ℕ) → named b q processing ≡ named c q processing
    unfolding named
    named_same processing =
        same_least (λ t. t.type) (applies b q processing) b.types c.types s.types
        ∙ ap (λ p. least (λ t. t.type) p c.types) (applies_same processing)

    deciding_same : (type : ℕ) → deciding b q type ≡ deciding c q type
    unfolding deciding
    deciding_same type =
        same_least (λ r. r.sequence) (rule_applies b q type positive) b.rules c.rules s.rules
        ∙ ap (λ p. least (λ r. r.sequence) p c.rules) (rule_applies_same type positive)

    decided_same : (type : ℕ) → decided b q type ≡ decided c q type
    unfolding decided
    decided_same zero = refl
    decided_same (suc type) = rw (deciding_same (suc type))

    verdict_same : (type validating holding : ℕ) → verdict b q type validating holding ≡ verdict c q type validating holding
    unfolding verdict
    verdict_same zero validating holding = rw (decided_same validating, decided_same holding)
    verdict_same (suc type) validating holding = rw (decided_same (suc type))

    pub judged_same : judged b q ≡ judged c q
    unfolding judged
    judged_same =
        verdict_same (named b q rejection) (named b q validation_hold) (named b q party_hold)
        ∙ rw (named_same rejection, named_same validation_hold, named_same party_hold)
