-- A rule moved to another sequence: what the answers to questions are then.
use Rattle.std.proofs.Common.{ℕ, ◌≡◌, refl, ap, sym, ◌∙◌, Bool, true, false, ◌&&◌, ◌||◌, arith, eqb, eqb-true, eq-eqb}
use mathlib.Core.Bool.{false≢true}
use Rattle.tables.specs.Count.{has, least}
use Rattle.tables.proofs.Counts.{cases, both, neither, ands}
use Rattle.tables.proofs.Lists.{has_true, every_any, some_of}
use Rattle.tables.proofs.Least.{least_agree, least_reached, least_among, least_apart}
use Rattle.meaning.specs.Records.{Rule, Book, Question, positive, negative, reorder}
use Rattle.meaning.specs.Keys.{is_rule, of_rule}
use Rattle.meaning.specs.Edits.{rule_moved, edited}
use Rattle.meaning.specs.Judging.{matches, rule_applies, deciding, judged}
use Rattle.meaning.specs.Sound.{rule_fits}
use Rattle.meaning.specs.Exercise.{
  same_rule,
  resequenced,
  placed,
  deciding_moved,
  between,
  names_rule,
  decides,
  PutElsewhere,
  ElsewhereTypes,
  ElsewhereChanges,
  BehindAnother,
  NegativeMoved,
  WithoutRowsMoved,
}
use Rattle.meaning.proofs.Keys.{rule_key_lem, is_rule_lem}
use Rattle.meaning.proofs.Listed.{not_so, has_map}
use Rattle.meaning.proofs.OrderJudged.{judged_same}
use Rattle.meaning.proofs.KeptOrder.{no_rows}
use Rattle.meaning.proofs.ExerciseJudged.{named_after, deciding_after}
use Rattle.meaning.proofs.ExerciseOutIn.{same_rule_lem, only_it, only_it_lem, it_is}
use Rattle.meaning.proofs.ExerciseWays.{Shifted, shifted, rule_from_one}
use Rattle.meaning.proofs.ExerciseVerdict.{judged_by_lem, judged_own, types_stay, named_by, named_again, resequenced_same, all_stay}

-- what a rule that applies is
module _ (b : Book) (q : Question) (type sign : ℕ) (x : Rule) (e : rule_applies b q type sign x ≡ true) where
  applied_type : x.type ≡ type
  unfolding rule_applies
  applied_type = eqb-true x.type type (search ands)

  applied_object : x.object ≡ q.object
  unfolding rule_applies
  applied_object = eqb-true x.object q.object (search ands)

  applied_sign : x.sign ≡ sign
  unfolding rule_applies
  applied_sign = eqb-true x.sign sign (search ands)

  pub applied_matches : matches b q x ≡ true
  unfolding rule_applies
  applied_matches = search ands

module _ {b : Book} {r : Rule} {new : ℕ} {c : Book} (m : Shifted b r new c) where
  abbrev its : Rule → Bool
  its = is_rule r.type r.object r.sequence

  held_fits : rule_fits r ≡ true
  held_fits =
      some_of rule_fits (same_rule r) b.rules m.good.rules_fit (has_true _ b.rules m.held)
      (λ x f e. ap rule_fits (same_rule_lem r x e) ∙ f)

  module _ (q : Question) where
    pub elsewhere : judged c q ≡ resequenced (deciding_moved b q r new) (judged b q)
    unfolding deciding_moved
    elsewhere =
        let none = no_rows b m.good.lists r.type r.object new m.free in
        judged_same c (edited b (reorder r.type r.object r.sequence new)) m.same q
        ∙ judged_by_lem b _ q (deciding_moved b q r new) (deciding_after r.type r.object r.sequence new b q m.free none)
        (named_after r.type r.object r.sequence new b q m.free none)

    -- where it is not among the positive rules of the type that match
    unplaced : (type : ℕ)
        → ((x : Rule) → only_it b m.good r m.held x ≡ true → rule_applies b q type positive x ≡ true → its x ≡ false)
        → deciding_moved b q r new type ≡ deciding b q type
    unfolding deciding_moved deciding
    unplaced type h =
        least_agree (only_it b m.good r m.held) _ _ _ _ b.rules (only_it_lem b m.good r m.held) (λ x t. refl)
        (λ x t p. rw (h x t p))

    pub unmoved : ((type : ℕ) (x : Rule) → only_it b m.good r m.held x ≡ true → rule_applies b q type positive x ≡ true
        → its x ≡ false) → judged c q ≡ judged b q
    unmoved h =
        elsewhere
        ∙ resequenced_same (deciding_moved b q r new) (deciding b q) (judged b q) (λ type. unplaced type (h type))
        ∙ sym (judged_own b q)

    -- another type, or the other object
    other : (type : ℕ) → (eqb q.object r.object && eqb type r.type) ≡ false
        → deciding_moved b q r new type ≡ deciding b q type
    other type e =
        unplaced type
        (λ x u p.
        not_so (its x) _ e
        (λ t.
        let k = rule_key_lem r.type r.object r.sequence x t in
        rw (
          eq-eqb q.object r.object (sym (applied_object b q type positive x p) ∙ sym k.1),
          eq-eqb type r.type (sym (applied_type b q type positive x p) ∙ sym k.0),
        )))

    at_old : (x : Rule) → its x ≡ true → x.sequence ≡ r.sequence
    at_old x t = sym (rule_key_lem r.type r.object r.sequence x t).2

    at_new : (x : Rule) → its x ≡ true → placed b q r new x ≡ new
    at_new x t = rw t

    at_same : (x : Rule) → its x ≡ false → x.sequence ≡ placed b q r new x
    at_same x t = rw t

    -- it decides neither before nor after
    apart : (deciding b q r.type ≡ r.sequence → ⊥) → (deciding_moved b q r new r.type ≡ new → ⊥)
        → deciding_moved b q r new r.type ≡ deciding b q r.type
    unfolding deciding_moved deciding
    apart =
        least_apart (λ x. x.sequence) (placed b q r new) its r.sequence new at_old at_new at_same
        (rule_applies b q r.type positive) b.rules

    -- the answer before names it: its sequence is the least
    decided_before : decides b q r ≡ true → (q.object ≡ r.object) × (deciding b q r.type ≡ r.sequence)
    unfolding decides
    decided_before e =
        let d = both (eqb q.object r.object) (names_rule r.type r.sequence (judged b q)) e in (
          eqb-true q.object r.object d.0,
          named_by r.type (deciding b q) r.sequence (judged b q)
              (ap (names_rule r.type r.sequence) (sym (judged_own b q)) ∙ d.1),
        )

    -- what the answer after names by its type is the least with the moved rule at its new place
    decided_after : (k : ℕ) → names_rule r.type k (judged c q) ≡ true → deciding_moved b q r new r.type ≡ k
    decided_after k e =
        named_by r.type (deciding_moved b q r new) k (judged b q)
        (ap (names_rule r.type k) (sym elsewhere) ∙ e)

    -- no rule of its type has the old sequence then
    not_old : q.object ≡ r.object → deciding_moved b q r new r.type ≡ r.sequence → ⊥
    unfolding deciding_moved
    not_old o e =
        some_of _ _ b.rules (every_any b.rules)
        (has_true _ b.rules
        (least_reached (placed b q r new) (rule_applies b q r.type positive) b.rules
        (omega (arith, e, rule_from_one r held_fits))))
        (λ x u t.
        let d = both (rule_applies b q r.type positive x) _ t in
        let z = eqb-true (placed b q r new x) _ d.1 ∙ e in
        cases (its x)
        (λ y. m.apart (sym (at_new x y) ∙ z))
        (λ y.
        false≢true
        (sym y
        ∙ is_rule_lem r.type r.object r.sequence x (sym (applied_type b q r.type positive x d.0))
        (sym o ∙ sym (applied_object b q r.type positive x d.0)) (sym (at_same x y ∙ z)))))

    -- and none had the new one before
    not_new : q.object ≡ r.object → deciding b q r.type ≡ new → ⊥
    unfolding deciding
    not_new o e =
        false≢true
        (sym m.free
        ∙ has_map _ (is_rule r.type r.object new) b.rules
        (least_reached (λ x. x.sequence) (rule_applies b q r.type positive) b.rules (omega (arith, e, m.some_place)))
        (λ x t.
        let d = both (rule_applies b q r.type positive x) _ t in
        is_rule_lem r.type r.object new x (sym (applied_type b q r.type positive x d.0))
        (sym o ∙ sym (applied_object b q r.type positive x d.0)) (sym (eqb-true x.sequence _ d.1 ∙ e))))

    stays : (decides b q r || decides c q (rule_moved new r)) ≡ false → judged c q ≡ judged b q
    unfolding decides
    stays e =
        let on = eqb q.object r.object in
        let d = neither (decides b q r) (decides c q (rule_moved new r)) e in
        elsewhere
        ∙ all_stay (deciding b q) (deciding_moved b q r new) r.type r.sequence new on other apart (judged b q)
        (ap (λ v. on && names_rule r.type r.sequence v) (sym (judged_own b q)) ∙ d.0)
        (ap (λ v. on && names_rule r.type new v) (sym elsewhere) ∙ d.1)
        ∙ sym (judged_own b q)

    old_changes : judged c q ≡ judged b q → decides b q r ≡ true → ⊥
    unfolding decides
    old_changes z t =
        not_old (decided_before t).0
        (decided_after r.sequence
        (ap (names_rule r.type r.sequence) z ∙ (both (eqb q.object r.object) (names_rule r.type r.sequence (judged b q)) t).1))

    new_changes : judged c q ≡ judged b q → decides c q (rule_moved new r) ≡ true → ⊥
    unfolding decides
    new_changes z t =
        let d = both (eqb q.object r.object) (names_rule r.type new (judged c q)) t in
        not_new (eqb-true q.object r.object d.0)
        (named_by r.type (deciding b q) new (judged b q)
        (ap (names_rule r.type new) (sym (judged_own b q)) ∙ ap (names_rule r.type new) (sym z) ∙ d.1))

    changes : judged c q ≡ judged b q → (decides b q r || decides c q (rule_moved new r)) ≡ false
    changes z =
        rw (
          not_so (decides b q r) false refl (λ t. absurd (old_changes z t)),
          not_so (decides c q (rule_moved new r)) false refl (λ t. absurd (new_changes z t)),
        )

    behind : decides b q r ≡ true → has (between b q r new) b.rules ≡ true
        → names_rule r.type (least (λ x. x.sequence) (between b q r new) b.rules) (judged c q) ≡ true
    unfolding decides between deciding_moved deciding
    behind t h =
        let d = decided_before t in
        let z : deciding_moved b q r new r.type ≡ least (λ x. x.sequence) (between b q r new) b.rules =
        least_among (λ x. x.sequence) (placed b q r new) its r.sequence new at_old at_new at_same
        (rule_applies b q r.type positive) b.rules (λ x. true) (every_any b.rules) (rule_from_one r held_fits) d.1
        (λ x u p y.
        is_rule_lem r.type r.object r.sequence x (sym (applied_type b q r.type positive x p))
        (sym d.0 ∙ sym (applied_object b q r.type positive x p)) (sym y))
        h in
        ap (λ k. names_rule r.type k (judged c q)) (sym z)
        ∙ ap (names_rule r.type (deciding_moved b q r new r.type)) elsewhere
        ∙ named_again r.type (deciding b q) (deciding_moved b q r new) r.sequence (judged b q)
        (ap (names_rule r.type r.sequence) (sym (judged_own b q)) ∙ (both (eqb q.object r.object) _ t).1)

-- ---- the statements

pub put_elsewhere : PutElsewhere
put_elsewhere b r new lines m q = elsewhere (shifted m) q

pub elsewhere_types : ElsewhereTypes
elsewhere_types b r new lines m q = rw (put_elsewhere b r new lines m q) (types_stay (deciding_moved b q r new) (judged b q))

pub negative_moved : NegativeMoved
negative_moved b r new lines m n q =
    let s = shifted m in
    unmoved s q
    (λ type x u p.
    not_so (is_rule r.type r.object r.sequence x) false refl
    (λ t.
    absurd
    (let z : negative ≡ positive = sym n ∙ ap (λ y. y.sign) (it_is b s.good r s.held x u t) ∙ applied_sign b q type positive x p in
    omega arith)))

-- a rule that matches has a row
pub has_row : (b : Book) (q : Question) (n o s : ℕ) (x : Rule) → is_rule n o s x ≡ true → matches b q x ≡ true
    → has (of_rule n o s) b.rows ≡ true
unfolding matches
has_row b q n o s x t e =
    let k = rule_key_lem n o s x t in
    rw (k.0, k.1, k.2) (has_map _ (of_rule x.type x.object x.sequence) b.rows e (λ w h. search ands))

pub without_rows_moved : WithoutRowsMoved
without_rows_moved b r new lines m none q =
    unmoved (shifted m) q
    (λ type x u p.
    not_so (is_rule r.type r.object r.sequence x) _ none
    (λ t. has_row b q r.type r.object r.sequence x t (applied_matches b q type positive x p)))

pub elsewhere_changes : ElsewhereChanges
elsewhere_changes b r new lines m q = (stays (shifted m) q, changes (shifted m) q)

pub behind_another : BehindAnother
behind_another b r new lines m q = behind (shifted m) q
