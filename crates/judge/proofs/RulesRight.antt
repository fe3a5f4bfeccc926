-- Over a sound lone book, the rules that match by a table of marks are those of the filtered lone book that apply, as
-- the written meaning says.
use Rattle.std.proofs.Common.{ℕ, ◌<◌, ◌≡◌, refl, ap, sym, ◌∙◌, Bool, true, false, ◌&&◌, cond, List, arith, eqb, eqb-true}
use mathlib.Core.Bool.{and-true, and-false}
use Rattle.tables.specs.Count.{has}
use Rattle.tables.specs.Below.{any_below}
use Rattle.tables.proofs.Counts.{cases, ands}
use Rattle.tables.proofs.Lists.{has_among, least_among}
use Rattle.tables.proofs.Below.{any_same, least_same, has_lone, least_lone, least_by}
use Rattle.tables.proofs.Keying.{keys_all, parts_eq}
use Rattle.meaning.specs.Records as M
use Rattle.meaning.specs.Records.{positive}
use Rattle.meaning.specs.Judging.{covers, matches, rule_applies, deciding}
use Rattle.meaning.specs.Scope.{Scope, scoped}
use Rattle.places.specs.Layout.{rule_places, rule_at}
use Rattle.records.specs.Said.{rule_of}
use Rattle.book.specs.Lone.{rules_of, lone_book}
use Rattle.commands.specs.Asked.{question_of}
use Rattle.commands.specs.declared.Question.{Question}
use Rattle.matching.specs.MatchedRows.{rule_key}
use Rattle.matching.proofs.Ranged.{Ranged}
use Rattle.judge.specs.Stages.{sign_key, type_key, signed_key, typed_key, sign_keys, type_keys, sequences, rule_matches, rule_of_type, rules_matched, signs_matched, first_rule}

-- A table of marks tells which rules of the question's object that hold the day count and match.
abbrev pub Marks : List ℕ → Question → (M.Rule → Bool) → (ℕ → Bool) → Type 0
Marks b q counts marks =
    (i : ℕ) → i < rule_places → (rule_at b i).csd ≡ q.csd → (rule_at b i).object ≡ q.object
    → covers (rule_at b i).first (rule_at b i).last q.day ≡ true
    → marks (rule_key (rule_at b i).number (rule_at b i).sequence)
    ≡ (counts (rule_of (rule_at b i)) && matches (lone_book q.csd b) (question_of q) (rule_of (rule_at b i)))

-- ---- the same tests in another order

rule_order : (o d m m' f g s t : Bool) → (o ≡ true → d ≡ true → m ≡ (f && m'))
    → ((o && (d && m)) && (g && (s && t))) ≡ ((f && (t && o && g && d && m')) && s)
rule_order true true m m' f g s t h = rw (h refl refl) (order m' f g s t)
  where
    order : (m f g s t : Bool) → ((f && m) && (g && (s && t))) ≡ ((f && (t && true && g && true && m)) && s)
    order m false g s t = refl
    order true true true s true = rw (and-true s) refl
    order m true true s false = rw (and-false s) (and-false m)
    order m true false s true = and-false m
    order m true false s false = and-false m
    order false true true s true = refl
rule_order true false m m' true g s true h = rw (and-false g)
rule_order true false m m' true g s false h = refl
rule_order true false m m' false g s t h = refl
rule_order false d m m' f g s true h = rw (and-false f)
rule_order false d m m' f g s false h = rw (and-false f)

of_type_order : (n m g s : Bool) → ((n && m) && (g && s)) ≡ (m && (g && (s && n)))
of_type_order true m g s = rw (and-true s)
of_type_order false m g s = rw (and-false s, and-false g, and-false m)

module _ (b : List ℕ) (q : Question) (r : Ranged q.csd b) (marks : ℕ → Bool) (s : Scope) (told : Marks b q s.rules marks) where
  within : M.Book
  unfolding scoped
  within = scoped s (lone_book q.csd b)

  -- A rule that matches is one of the scope that applies for its type and sign.
  rules_of_lem : ℕ → ℕ → ℕ → Bool
  rules_of_lem t sign i =
      eqb (rule_at b i).csd q.csd
      && (s.rules (rule_of (rule_at b i)) && rule_applies within (question_of q) t sign (rule_of (rule_at b i)))

  -- with a further test x of the rule's key, as of its sequence
  spoken : (t sign i : ℕ) (x : Bool) → i < rule_places → (rule_at b i).csd ≡ q.csd
      → (rule_matches q marks (rule_at b i) && (eqb (rule_at b i).sign sign && (x && eqb (rule_at b i).number t)))
      ≡ ((s.rules (rule_of (rule_at b i)) && rule_applies within (question_of q) t sign (rule_of (rule_at b i))) && x)
  unfolding within scoped rule_matches rule_applies matches rule_of
  spoken t sign i x l e =
      rule_order (eqb (rule_at b i).object q.object) (covers (rule_at b i).first (rule_at b i).last q.day)
      (marks (rule_key (rule_at b i).number (rule_at b i).sequence))
      (matches (lone_book q.csd b) (question_of q) (rule_of (rule_at b i))) (s.rules (rule_of (rule_at b i)))
      (eqb (rule_at b i).sign sign) x (eqb (rule_at b i).number t)
      (λ o d. told i l e (eqb-true (rule_at b i).object q.object o) d)

  -- A marked sign of a type is that of a rule that applies.
  pub signs : (t sign : ℕ) → sign < 3
      → signs_matched b q marks (type_key t sign)
      ≡ has (rule_applies (scoped s (lone_book q.csd b)) (question_of q) t sign) (scoped s (lone_book q.csd b)).rules
  unfolding within scoped signs_matched rules_of
  signs t sign few =
      keys_all type_keys (λ r. r.csd) q.csd (rule_at b) typed_key (rule_matches q marks) rule_places
      (λ i l o e. let y = r.rules i l o in omega (arith, y.0, y.2)) (type_key t sign)
      ∙ any_same _ _ rule_places
      (λ i l.
      cases (eqb (rule_at b i).csd q.csd)
      (λ e.
      let o = eqb-true (rule_at b i).csd q.csd e in
      rw (e, parts_eq 3 (rule_at b i).number (rule_at b i).sign t sign (r.rules i l o).2 few)
      (spoken t sign i true l o ∙ and-true (s.rules (rule_of (rule_at b i)) && rule_applies within (question_of q) t sign (rule_of (rule_at b i)))))
      (λ e. rw e))
      ∙ sym (has_lone (λ r. r.csd) rule_of q.csd (rule_at b) _ rule_places)
      ∙ sym (has_among _ s.rules (rules_of q.csd b))

  -- A marked rule of a type is one that applies, at its sequence.
  rules : (t x sign : ℕ) → sign < 3
      → rules_matched b q marks t (sign_key x sign) ≡ any_below (λ i. rules_of_lem t sign i && eqb (rule_at b i).sequence x) rule_places
  unfolding rules_matched rule_of_type rules_of_lem
  rules t x sign few =
      keys_all sign_keys (λ r. r.csd) q.csd (rule_at b) signed_key (rule_of_type q marks t) rule_places
      (λ i l o e. let y = r.rules i l o in omega (arith, y.1, y.2)) (sign_key x sign)
      ∙ any_same _ _ rule_places
      (λ i l.
      cases (eqb (rule_at b i).csd q.csd)
      (λ e.
      let o = eqb-true (rule_at b i).csd q.csd e in
      rw (e, parts_eq 3 (rule_at b i).sequence (rule_at b i).sign x sign (r.rules i l o).2 few)
      (of_type_order (eqb (rule_at b i).number t) (rule_matches q marks (rule_at b i)) (eqb (rule_at b i).sign sign) (eqb (rule_at b i).sequence x)
      ∙ spoken t sign i (eqb (rule_at b i).sequence x) l o))
      (λ e. rw e))

  in_range : (t i : ℕ) → i < rule_places → rules_of_lem t positive i ≡ true → (rule_at b i).sequence < sequences
  unfolding rules_of_lem
  in_range t i l e = (r.rules i l (eqb-true (rule_at b i).csd q.csd (search ands))).1

  -- What is found in rising sequence is what the written meaning finds among the rules.
  pub decides : (t : ℕ) → first_rule (rules_matched b q marks t) ≡ deciding (scoped s (lone_book q.csd b)) (question_of q) t
  unfolding first_rule within scoped rules_of_lem deciding rules_of rule_of
  decides t =
      least_same _ _ sequences (λ x l. ap (λ z. cond z x 0) (rules t x positive (omega arith)))
      ∙ least_by (rules_of_lem t positive) (λ i. (rule_at b i).sequence) sequences rule_places (in_range t)
      ∙ sym (least_lone (λ r. r.csd) rule_of q.csd (rule_at b) (λ r. r.sequence) (λ r. s.rules r && applied r) rule_places)
      ∙ sym (least_among (λ r. r.sequence) applied s.rules (rules_of q.csd b))
    where
      applied : M.Rule → Bool
      applied = rule_applies (scoped s (lone_book q.csd b)) (question_of q) t positive
