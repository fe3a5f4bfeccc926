-- Over a sound lone book, what is judged by the book's bytes is the written meaning's verdict; by a scope, over the
-- lone book in which only what the scope has is left.
use Rattle.std.proofs.Common.{ℕ, zero, suc, ◌≡◌, refl, ap, ap₂, sym, ◌∙◌, Bool, true, false, ◌&&◌, not, cond, List, arith, eqb, ne_eqb, leb-true}
use mathlib.Core.Bool.{and-true, and-false}
use Rattle.tables.specs.Count.{has}
use Rattle.tables.specs.Below.{least_below}
use Rattle.tables.specs.Keyed.{leasts}
use Rattle.tables.proofs.Counts.{ands}
use Rattle.tables.proofs.Lists.{least_among, keep_any}
use Rattle.tables.proofs.Below.{least_same, least_lone}
use Rattle.meaning.specs.Records as M
use Rattle.meaning.specs.Records.{positive, negative, rejection, validation_hold, party_hold}
use Rattle.meaning.specs.Keys.{of_rule}
use Rattle.meaning.specs.Judging as meant
use Rattle.meaning.specs.Judging.{covers, meets_all, matches, rule_applies, applies, judged}
use Rattle.meaning.specs.Edits.{with_types, with_rules}
use Rattle.meaning.specs.Scope as filter
use Rattle.meaning.specs.Scope.{scoped, is_new}
use Rattle.meaning.specs.Sound.{sound_lone}
use Rattle.places.specs.Layout.{type_places, type_at, rule_at}
use Rattle.places.specs.declared.RestrictionType.{RestrictionType}
use Rattle.records.specs.Said.{type_of, rule_of}
use Rattle.book.specs.Lone.{types_of, lone_book}
use Rattle.commands.specs.Asked.{question_of}
use Rattle.commands.specs.declared.Question.{Question}
use Rattle.matching.proofs.Ranged.{Ranged, ranged}
use Rattle.matching.proofs.MarksRight.{rows}
use Rattle.newrules.proofs.NewRight.{new_right}
use Rattle.judge.specs.Stages.{rules_matched, signs_matched, type_applies, types_named, decided, verdict, verdict_by, rows_on, judged_by}
use Rattle.judge.specs.Within.{whole, none_passed, type_passed, rows_within, judged_within, counted, scope_of, JudgedWithin}
use Rattle.judge.specs.declared.Scope.{Scope}
use Rattle.judge.proofs.RulesRight.{Marks, signs, decides}

-- ---- the same tests in another order

type_order : (o d a n y p : Bool) → (((o && d) && ((a && n) && y)) && p) ≡ (y && (o && p && d && a && n))
type_order false d a n true p = refl
type_order false d a n false p = refl
type_order true false a n true true = refl
type_order true false a n true false = refl
type_order true false a n false p = refl
type_order true true a n true true = rw (and-true (a && n)) (and-true (a && n))
type_order true true a n true false = and-false ((a && n) && true)
type_order true true a n false p = rw (and-false (a && n))

-- s is the scope, marks the rules of it that match, over the types that are not of it.
module _ (b : List ℕ) (q : Question) (r : Ranged q.csd b) (marks : ℕ → Bool) (over : RestrictionType → Bool) (s : filter.Scope)
    (told : Marks b q s.rules marks) (left : (t : RestrictionType) → s.types (type_of t) ≡ not (over t)) where
  filtered : M.Book
  filtered = scoped s (lone_book q.csd b)

  applied : (processing i : ℕ)
      → (type_applies q over (signs_matched b q marks) (type_at b i) && eqb (type_at b i).processing processing)
      ≡ (s.types (type_of (type_at b i)) && applies filtered (question_of q) processing (type_of (type_at b i)))
  unfolding filtered type_applies applies type_of
  applied processing i =
      rw (
        signs b q r marks s told (type_at b i).number positive (omega arith),
        signs b q r marks s told (type_at b i).number negative (omega arith),
        left (type_at b i),
      )
      (type_order (eqb (type_at b i).object q.object) (covers (type_at b i).first (type_at b i).last q.day)
      (has (rule_applies filtered (question_of q) (type_at b i).number positive) filtered.rules)
      (not (has (rule_applies filtered (question_of q) (type_at b i).number negative) filtered.rules))
      (not (over (type_at b i))) (eqb (type_at b i).processing processing))

  pub lowest : (processing : ℕ)
      → least_below (λ i. cond (eqb (type_at b i).csd q.csd && (type_applies q over (signs_matched b q marks) (type_at b i) && eqb (type_at b i).processing processing)) (type_at b i).number 0) type_places
      ≡ meant.named (scoped s (lone_book q.csd b)) (question_of q) processing
  unfolding filtered scoped meant.named types_of type_of
  lowest processing =
      least_same _ _ type_places (λ i l. ap (λ z. cond (eqb (type_at b i).csd q.csd && z) (type_at b i).number 0) (applied processing i))
      ∙ sym (least_lone (λ t. t.csd) type_of q.csd (type_at b) (λ t. t.type) (λ t. s.types t && of_processing t) type_places)
      ∙ sym (least_among (λ t. t.type) of_processing s.types (types_of q.csd b))
    where
      of_processing : M.TypeRecord → Bool
      of_processing = applies filtered (question_of q) processing

  decided_right : (t : ℕ) → decided (rules_matched b q marks) t ≡ meant.decided filtered (question_of q) t
  unfolding filtered decided meant.decided
  decided_right zero = refl
  decided_right (suc t) = rw (ne_eqb (suc t) 0 (λ z. omega arith), decides b q r marks s told (suc t))

  -- The verdict, by the types named.
  verdict_right : (named : ℕ → ℕ) (n h k : ℕ) → named rejection ≡ n → named validation_hold ≡ h → named party_hold ≡ k
      → verdict (rules_matched b q marks) named ≡ meant.verdict filtered (question_of q) n h k
  unfolding verdict meant.verdict
  verdict_right named zero h k en eh ek = rw (en, eh, ek, decided_right h, decided_right k, decided_right 0)
  verdict_right named (suc n) h k en eh ek = rw (en, ne_eqb (suc n) 0 (λ z. omega arith), decided_right (suc n), decided_right 0)

  pub by_filter : verdict_by b q over marks ≡ judged (scoped s (lone_book q.csd b)) (question_of q)
  unfolding filtered verdict_by types_named leasts judged
  by_filter =
      verdict_right (types_named b q over (signs_matched b q marks)) _ _ _ (lowest rejection) (lowest validation_hold) (lowest party_hold)

-- ---- the rules that count

module _ (b : List ℕ) (q : Question) (s : sound_lone (lone_book q.csd b) ≡ true) where
  -- by the rows
  rows_right : Marks b q (λ r. true) (rows_on b q)
  unfolding matches rule_of
  rows_right i l e o d =
      let r = ranged q.csd b s in
      rows b q r (rule_at b i).number (rule_at b i).sequence (r.rules i l e).1
      ∙ ap (λ x. has (λ w. of_rule (rule_at b i).number x (rule_at b i).sequence w && meets_all (meant.tests (lone_book q.csd b) (question_of q)) w.values) (lone_book q.csd b).rows)
      (sym o)

  -- and by the rows and by which rules are new
  pub counted_right : (w : Scope) → Marks b q (counted w (lone_book q.csd b) q.day) (rows_within b q w.fresh)
  unfolding rows_within
  counted_right w = by_fresh w.fresh
    where
      by_fresh : (fresh : Bool)
          → Marks b q (λ r. cond fresh (is_new (lone_book q.csd b) q.day r) true) (rows_within b q fresh)
      by_fresh false i l e o d = rows_right i l e o d
      by_fresh true i l e o d =
          new_right b q s (rows_on b q) i l e o (leb-true (rule_at b i).first q.day (search ands))
          ∙ ap (λ x. is_new (lone_book q.csd b) q.day (rule_of (rule_at b i)) && x) (rows_right i l e o d)

-- Judging by a scope is judging the filtered lone book.
pub judged_within_lem : JudgedWithin
unfolding judged_within type_passed type_of
judged_within_lem b q s passed z =
    by_filter b q (ranged q.csd b z) (rows_within b q s.fresh) (type_passed s passed)
    (scope_of s passed (lone_book q.csd b) q.day) (counted_right b q z s) (λ t. refl)

-- Nothing is left out by the whole scope.
pub scoped_whole : (m : M.Book) → scoped filter.whole m ≡ m
unfolding scoped
scoped_whole m = ap₂ (λ x y. with_types x (with_rules y m)) (keep_any m.types) (keep_any m.rules)

-- The verdict over the bytes is the written meaning's over the question's lone book, where that is sound.
pub judged_right : (b : List ℕ) (q : Question) → sound_lone (lone_book q.csd b) ≡ true
    → judged_by b q ≡ judged (lone_book q.csd b) (question_of q)
unfolding judged_by judged_within type_passed rows_within
judged_right b q s =
    judged_within_lem b q whole none_passed s ∙ ap (λ m. judged m (question_of q)) (scoped_whole (lone_book q.csd b))
