-- Over a sound lone book, a marked rule is one that is new, as the written meaning says, and of which a row matches.
use Prim.Native.Nat.{ℕ, ◌<◌, ◌≤◌}
use mathlib.Core.Path.{◌≡◌, refl, ap, ap₂, sym, ◌∙◌}
use mathlib.Core.Bool.{Bool, true, false, ◌&&◌, ◌||◌, and-true, and-false, and_comm}
use mathlib.Core.List.{List}
use native.Mathlib.Omega.{arith}
use lib.Dec.{eqb, leb}
use borrow.Author.Tests.{eqb-true, eq-eqb, ne_eqb, leb-true, leb-false, le-leb}
use Rattle.tables.specs.Count.{count_below}
use Rattle.tables.specs.Below.{any_below}
use Rattle.tables.proofs.Counts.{cases, cases_eq, ands}
use Rattle.tables.proofs.Lone.{count_lone, every_at}
use Rattle.tables.proofs.Below.{any_same, any_either, any_one, has_lone}
use Rattle.tables.proofs.Keying.{keys_all, parts_eq}
use Rattle.meaning.specs.Forms.{holds}
use Rattle.meaning.specs.Keys.{is_type, is_rule}
use Rattle.meaning.specs.Sound.{key_fits, type_fits, sound_lone}
use Rattle.meaning.specs.Scope.{later, is_new}
use Rattle.meaning.proofs.Good.{good_of_sound}
use Rattle.places.specs.Layout.{type_places, rule_places, type_at, rule_at}
use Rattle.records.specs.Said.{type_of, rule_of}
use Rattle.book.specs.Lone.{types_of, rules_of, lone_book}
use Rattle.places.specs.declared.RestrictionType.{RestrictionType}
use Rattle.places.specs.declared.Rule.{Rule}
use Rattle.commands.specs.declared.Question.{Question}
use Rattle.matching.specs.MatchedRows.{rule_keys}
use Rattle.matching.proofs.Ranged.{ranged}
use Rattle.newrules.specs.NewRules.{on_the_day, before, when_begun, begun_key, begun_keys, first_key, has_begun, types_begun, rule_new, ruled_key, new_matches, new_rules}

-- ---- the later of two first days is the day, where the first is not after it

on_day : (a b day : ℕ) → a ≤ day
    → eqb (later a b) day
    ≡ ((leb b day && eqb (when_begun b day) on_the_day) || ((leb b day && eqb (when_begun b day) before) && eqb a day))
on_day a b day l =
    cases_eq b day
    (λ e. rw (e, le-leb a day l, le-leb day day (omega arith), eq-eqb day day refl))
    (λ e.
    cases (leb b day)
    (λ f.
    let m = leb-true b day f in
    cases (leb a b)
    (λ g. rw (g, f, ne_eqb b day e, ne_eqb a day (λ z. e (omega (arith, leb-true a b g)))))
    (λ g. rw (g, f, ne_eqb b day e)))
    (λ f. rw (le-leb a b (omega (arith, leb-false b day f)), f, ne_eqb b day e)))

-- ---- the same tests in another order

began_order : (c o f w v n e : Bool)
    → ((c && ((o && f) && (w && n))) || ((c && ((o && f) && (v && n))) && e))
    ≡ (c && ((n && o) && ((f && w) || ((f && v) && e))))
began_order false o f w v n e = refl
began_order true false f w v n e = rw (and-false n)
began_order true true false w v n e = rw (and-false (n && true))
began_order true true true w v true e = rw (and-true w, and-true v)
began_order true true true w v false e = rw (and-false w, and-false v)

rule_order : (c o o' x s n : Bool) → o ≡ o' → (c && ((o && x) && (s && n))) ≡ ((c && (s && n && o')) && x)
rule_order false o o' x s n h = refl
rule_order true true o' x s n h = rw (sym h, and-true (s && n)) (and_comm x (s && n))
rule_order true false o' x s n h = rw (sym h, and-false (s && n))

module _ (b : List ℕ) (q : Question) (s : sound_lone (lone_book q.csd b) ≡ true) where
  -- The numbers of types are keys.
  pub type_low : (i : ℕ) → i < type_places → (type_at b i).csd ≡ q.csd → (type_at b i).number < 100
  unfolding types_of type_of type_fits key_fits holds
  type_low i l o =
      let g = good_of_sound (lone_book q.csd b) s in
      let e = every_at (λ t. t.csd) type_of q.csd type_fits (type_at b) type_places g.types_fit i l o in
      let number = leb-true (type_at b i).number 99 (search ands) in
      omega arith

  few : (t : RestrictionType) → when_begun t.first q.day < 3
  few t = cases (eqb t.first q.day) (λ e. rw e (omega arith)) (λ e. rw e (omega arith))

  -- 1. A marked type is one of the question's object that began then.
  begun : (n w : ℕ) → w < 3
      → types_begun b q (begun_key n w)
      ≡ any_below (λ i. eqb (type_at b i).csd q.csd && (has_begun q (type_at b i) && (eqb (when_begun (type_at b i).first q.day) w && eqb (type_at b i).number n))) type_places
  unfolding types_begun
  begun n w h =
      keys_all begun_keys (λ t. t.csd) q.csd (type_at b) (first_key q) (has_begun q) type_places
      (λ i l o e. omega (arith, type_low i l o, few (type_at b i))) (begun_key n w)
      ∙ any_same _ _ type_places
      (λ i l.
      ap (λ k. eqb (type_at b i).csd q.csd && (has_begun q (type_at b i) && k))
      (parts_eq 3 (type_at b i).number (when_begun (type_at b i).first q.day) n w (few (type_at b i)) h))

  -- So a rule is new as the written meaning says.
  new : (r : Rule) → r.object ≡ q.object → r.first ≤ q.day
      → rule_new q (types_begun b q) r ≡ is_new (lone_book q.csd b) q.day (rule_of r)
  unfolding rule_new is_new rule_of types_of type_of is_type has_begun
  new r o l =
      rw (begun r.number on_the_day (omega arith), begun r.number before (omega arith))
      (sym (any_either _ _ (eqb r.first q.day) type_places)
      ∙ any_same _ _ type_places
      (λ i m.
      began_order (eqb (type_at b i).csd q.csd) (eqb (type_at b i).object q.object) (leb (type_at b i).first q.day)
      (eqb (when_begun (type_at b i).first q.day) on_the_day) (eqb (when_begun (type_at b i).first q.day) before)
      (eqb (type_at b i).number r.number) (eqb r.first q.day)
      ∙ ap₂ (λ x y. eqb (type_at b i).csd q.csd && ((eqb (type_at b i).number r.number && x) && y))
      (ap (eqb (type_at b i).object) (sym o)) (sym (on_day r.first (type_at b i).first q.day l)))
      ∙ sym (has_lone (λ t. t.csd) type_of q.csd (type_at b) _ type_places))

  -- 2. A key is that of one rule, so its mark tells of that rule.
  once : (n o x : ℕ)
      → count_below (λ j. eqb (rule_at b j).csd q.csd && is_rule n o x (rule_of (rule_at b j))) rule_places ≤ 1
  unfolding rules_of
  once n o x =
      rw (sym (count_lone (λ r. r.csd) rule_of q.csd (is_rule n o x) (rule_at b) rule_places))
      ((good_of_sound (lone_book q.csd b) s).rule_once n o x)

  own : (i : ℕ) → (rule_at b i).csd ≡ q.csd
      → (eqb (rule_at b i).csd q.csd && is_rule (rule_at b i).number (rule_at b i).object (rule_at b i).sequence (rule_of (rule_at b i))) ≡ true
  unfolding is_rule rule_of
  own i e =
      rw (
        eq-eqb (rule_at b i).csd q.csd e,
        eq-eqb (rule_at b i).sequence (rule_at b i).sequence refl,
        eq-eqb (rule_at b i).number (rule_at b i).number refl,
        eq-eqb (rule_at b i).object (rule_at b i).object refl,
      )

  module _ (marks : ℕ → Bool) where
    told : (i : ℕ) → i < rule_places → (rule_at b i).csd ≡ q.csd → (rule_at b i).object ≡ q.object
        → new_rules b q (types_begun b q) marks (ruled_key (rule_at b i)) ≡ (rule_new q (types_begun b q) (rule_at b i) && marks (ruled_key (rule_at b i)))
    unfolding new_rules new_matches is_rule rule_of
    told i l e o =
        let g = ranged q.csd b s in
        keys_all rule_keys (λ r. r.csd) q.csd (rule_at b) ruled_key (new_matches q (types_begun b q) marks) rule_places
        (λ j m f d. let y = g.rules j m f in omega (arith, y.0, y.1)) (ruled_key (rule_at b i))
        ∙ any_same _ _ rule_places
        (λ j m.
        cases (eqb (rule_at b j).csd q.csd)
        (λ f.
        let y = g.rules j m (eqb-true (rule_at b j).csd q.csd f) in
        rw (parts_eq 100 (rule_at b j).number (rule_at b j).sequence (rule_at b i).number (rule_at b i).sequence y.1 (g.rules i l e).1)
        (rule_order (eqb (rule_at b j).csd q.csd) (eqb (rule_at b j).object q.object) (eqb (rule_at b j).object (rule_at b i).object)
        (rule_new q (types_begun b q) (rule_at b j) && marks (ruled_key (rule_at b j))) (eqb (rule_at b j).sequence (rule_at b i).sequence)
        (eqb (rule_at b j).number (rule_at b i).number) (ap (eqb (rule_at b j).object) (sym o))))
        (λ f. rw f))
        ∙ any_one _ (λ j. rule_new q (types_begun b q) (rule_at b j) && marks (ruled_key (rule_at b j))) rule_places i
        (once (rule_at b i).number (rule_at b i).object (rule_at b i).sequence) l (own i e)

    pub new_right : (i : ℕ) → i < rule_places → (rule_at b i).csd ≡ q.csd → (rule_at b i).object ≡ q.object
        → (rule_at b i).first ≤ q.day
        → new_rules b q (types_begun b q) marks (ruled_key (rule_at b i)) ≡ (is_new (lone_book q.csd b) q.day (rule_of (rule_at b i)) && marks (ruled_key (rule_at b i)))
    new_right i l e o f = told i l e o ∙ ap (λ x. x && marks (ruled_key (rule_at b i))) (new (rule_at b i) o f)
