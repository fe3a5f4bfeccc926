-- How a question is judged when a rule and its rows have another sequence: each rule applies as it did, so only the
-- sequence that is named can differ.
use Rattle.std.proofs.Common.{ℕ, ◌≡◌, refl, ap₂, sym, ◌∙◌, Bool, true, false, cond, not, ◌&&◌}
use borrow.Author.Tests.{not-true}
use Rattle.tables.specs.Count.{has, every, change, least}
use Rattle.tables.proofs.Counts.{cases}
use Rattle.tables.proofs.Lists.{has_false, every_none}
use Rattle.tables.proofs.Least.{has_agree, has_alter, least_alter, least_agree}
use Rattle.meaning.specs.Records.{Rule, Row, Book, Question, positive, reorder}
use Rattle.meaning.specs.Keys.{is_rule, of_rule}
use Rattle.meaning.specs.Edits.{rule_moved, row_moved, edited}
use Rattle.meaning.specs.Judging.{meets_all, tests, matches, rule_applies, named, deciding}
use Rattle.meaning.proofs.Keys.{rule_key_lem, of_key, is_rule_lem, is_of}
use Rattle.meaning.proofs.Listed.{not_so}
use Rattle.meaning.proofs.ExerciseVerdict.{named_alike}

module _ (n o s new : ℕ) where
  -- the record, moved if it is the rule's
  abbrev pub rule_after : Rule → Rule
  rule_after x = cond (is_rule n o s x) (rule_moved new x) x

  abbrev pub row_after : Row → Row
  row_after w = cond (of_rule n o s w) (row_moved new w) w

  -- a row is of a rule exactly if it was: neither the rules nor the rows had the new key
  of_after : (x : Rule) (w : Row) → is_rule n o new x ≡ false → of_rule n o new w ≡ false
      → of_rule (rule_after x).type (rule_after x).object (rule_after x).sequence (row_after w)
      ≡ of_rule x.type x.object x.sequence w
  of_after x w e f =
      cases (is_rule n o s x)
      (λ y.
      let k = rule_key_lem n o s x y in
      cases (of_rule n o s w)
      (λ z.
      let m = of_key n o s w z in
      rw (y, z)
      (is_of x.type x.object new (row_moved new w) (sym k.0 ∙ m.0) (sym k.1 ∙ m.1) refl
      ∙ sym (is_of x.type x.object x.sequence w (sym k.0 ∙ m.0) (sym k.1 ∙ m.1) (sym k.2 ∙ m.2))))
      (λ z.
      rw (y, z)
      (ap₂ (λ t u. of_rule t u new w) (sym k.0) (sym k.1) ∙ f
      ∙ sym (rw (k.0, k.1, k.2) at z))))
      (λ y.
      cases (of_rule n o s w)
      (λ z.
      let m = of_key n o s w z in
      rw (y, z)
      (not_so (of_rule x.type x.object x.sequence (row_moved new w)) (is_rule n o new x) e
      (λ h.
      let k = of_key x.type x.object x.sequence (row_moved new w) h in
      is_rule_lem n o new x (m.0 ∙ sym k.0) (m.1 ∙ sym k.1) (sym k.2))
      ∙ sym (not_so (of_rule x.type x.object x.sequence w) (is_rule n o s x) y
      (λ h.
      let k = of_key x.type x.object x.sequence w h in
      is_rule_lem n o s x (m.0 ∙ sym k.0) (m.1 ∙ sym k.1) (m.2 ∙ sym k.2)))))
      (λ z. rw (y, z)))

  rule_fields : (x : Rule)
      → ((rule_after x).type ≡ x.type) × ((rule_after x).object ≡ x.object) × ((rule_after x).sign ≡ x.sign)
      × ((rule_after x).first ≡ x.first) × ((rule_after x).last ≡ x.last)
  rule_fields x = cases (is_rule n o s x) (λ y. rw y (refl, refl, refl, refl, refl)) (λ y. rw y (refl, refl, refl, refl, refl))

  row_values : (w : Row) → (row_after w).values ≡ w.values
  row_values w = cases (of_rule n o s w) (λ y. rw y) (λ y. rw y)

  pub sequence_after : (x : Rule) → (rule_after x).sequence ≡ cond (is_rule n o s x) new x.sequence
  sequence_after x = cases (is_rule n o s x) (λ y. rw y) (λ y. rw y)

  module _ (b : Book) (q : Question) (free : has (is_rule n o new) b.rules ≡ false)
      (none : has (of_rule n o new) b.rows ≡ false) where
    abbrev moved : Book
    moved = edited b (reorder n o s new)

    free_rule : Rule → Bool
    free_rule x = not (is_rule n o new x)

    rules_free : every free_rule b.rules ≡ true
    unfolding free_rule
    rules_free = every_none (is_rule n o new) b.rules (has_false (is_rule n o new) b.rules free)

    rows_free : every (λ w. not (of_rule n o new w)) b.rows ≡ true
    rows_free = every_none (of_rule n o new) b.rows (has_false (of_rule n o new) b.rows none)

    matches_after : (x : Rule) → free_rule x ≡ true → matches moved q (rule_after x) ≡ matches b q x
    unfolding matches edited change free_rule tests
    matches_after x e =
        has_alter _ row_after b.rows
        ∙ has_agree _ _ _ b.rows rows_free
        (λ w z.
        ap₂ (λ t v. t && meets_all (tests b q) v) (of_after x w (not-true (is_rule n o new x) e) (not-true (of_rule n o new w) z))
        (row_values w))

    applies_after : (type sign : ℕ) (x : Rule) → free_rule x ≡ true
        → rule_applies moved q type sign (rule_after x) ≡ rule_applies b q type sign x
    unfolding rule_applies
    applies_after type sign x e = let f = rule_fields x in rw (matches_after x e, f.0, f.1, f.2, f.3, f.4)

    some_after : (type sign : ℕ)
        → has (rule_applies moved q type sign) moved.rules ≡ has (rule_applies b q type sign) b.rules
    unfolding edited change
    some_after type sign =
        has_alter (rule_applies moved q type sign) rule_after b.rules
        ∙ has_agree _ _ _ b.rules rules_free (applies_after type sign)

    -- the types that are named stay
    pub named_after : (processing : ℕ) → named moved q processing ≡ named b q processing
    unfolding edited
    named_after = named_alike b moved q refl some_after

    -- the sequence named is the least, the moved rule counted at its new place
    pub deciding_after : (type : ℕ)
        → deciding moved q type
        ≡ least (λ x. cond (is_rule n o s x) new x.sequence) (rule_applies b q type positive) b.rules
    unfolding deciding edited change
    deciding_after type =
        least_alter (λ x. x.sequence) (rule_applies moved q type positive) rule_after b.rules
        ∙ least_agree _ _ _ _ _ b.rules rules_free (applies_after type positive) (λ x e t. sequence_after x)
