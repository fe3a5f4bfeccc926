-- What the start of a day and a release do to a kept instruction: a hold stays on, and what no new rule matches stays.
use Rattle.std.proofs.Common.{ℕ, zero, suc, ◌≡◌, refl, ap, sym, ◌∙◌, Bool, true, false, not, cond, ◌&&◌, ◌||◌, [], Option, Some, None, eqb, eqb-true, eq-eqb}
use mathlib.Core.Path.{fun_ext}
use mathlib.Core.Bool.{and-false, or-true, or-false, false≢true}
use Rattle.tables.specs.Count.{has}
use Rattle.tables.proofs.Counts.{cases}
use Rattle.tables.proofs.Lists.{every_any, has_among, keep_any}
use Rattle.tables.proofs.Least.{has_under, least_none, has_none}
use Rattle.meaning.specs.Records.{TypeRecord, Kept, Book, Question, rejection, validation_hold, party_hold, positive, negative}
use Rattle.meaning.specs.Judging.{covers, matches, tests, rule_applies, applies, named, decided, verdict, rejected, judged}
use Rattle.meaning.specs.Scope.{scoped, is_new}
use Rattle.meaning.specs.Pending.{among, are_types, held_since, is_held, asking, exempts, exempted, passed_over, at_start, met, entered, start_verdict, start_exempted, started, released}
use Rattle.meaning.specs.Keeping.{WholeBook, HoldStays, HoldDays, ReleasesOne, met_anew, LeftAsItWas, MemoryStays}
use Rattle.meaning.specs.Status.{is_on}
use Rattle.meaning.specs.declared.Verdict.{Verdict}
use Rattle.meaning.proofs.Remembered.{which_types, types_which_lem, among_more}

pub whole_book : WholeBook
unfolding scoped
whole_book b q = rw (keep_any b.types, keep_any b.rules) refl

-- ---- what is left, unless it is cancelled

is_some : {A : Type 0} → Option A → Bool
is_some None = false
is_some (Some x) = true

or_else : {A : Type 0} → A → Option A → A
or_else x None = x
or_else x (Some y) = y

-- the instruction in a choice between none and one
left : {A : Type 0} (t : Bool) (x y : A) → cond t None (Some x) ≡ Some y → x ≡ y
unfolding is_some or_else
left true x y e = absurd (false≢true (ap is_some e))
left false x y e = ap (or_else x) e

pub start_left : (b : Book) (day : ℕ) (k k' : Kept) → started b day k ≡ Some k'
    → met (start_verdict b day k) (start_exempted b day k) day k ≡ k'
unfolding started
start_left b day k k' e = left (rejected (start_verdict b day k)) _ k' e

-- ---- a hold that is on

-- where no type is named for a hold, the verdict does not put it on
no_validation : (b : Book) (q : Question) (n h : ℕ) → (verdict b q n 0 h).validation ≡ None
unfolding verdict decided
no_validation b q zero h = refl
no_validation b q (suc n) h = refl

pub no_party : (b : Book) (q : Question) (n h : ℕ) → (verdict b q n h 0).party ≡ None
unfolding verdict decided
no_party b q zero h = refl
no_party b q (suc n) h = refl

-- no type is named for a hold that is on
held_passed : (b : Book) (day : ℕ) (k : Kept) (hold : ℕ) → is_held k hold ≡ true
    → named (scoped (at_start b day k) b) (asking day k) hold ≡ 0
unfolding named scoped applies passed_over
held_passed b day k hold e =
    least_none _ (applies (scoped (at_start b day k) b) (asking day k) hold) (λ t. not (passed_over k t)) b.types
    (λ t g.
    cases (eqb t.processing hold)
    (λ p.
    absurd (false≢true (sym (rw (ap (is_held k) (eqb-true t.processing hold p) ∙ e, or-true (among k.remembered t.type)) refl) ∙ g)))
    (λ p. rw (p, and-false (eqb t.object k.object)) refl))

module _ (b : Book) (day : ℕ) (k : Kept) where
  -- what is named at the start of the day
  abbrev named_at : ℕ → ℕ
  named_at = named (scoped (at_start b day k) b) (asking day k)

  validating_on : is_held k validation_hold ≡ true → (start_verdict b day k).validation ≡ None
  unfolding start_verdict judged
  validating_on e =
      ap (λ n. (verdict (scoped (at_start b day k) b) (asking day k) (named_at rejection) n (named_at party_hold)).validation)
      (held_passed b day k validation_hold e)
      ∙ no_validation (scoped (at_start b day k) b) (asking day k) (named_at rejection) (named_at party_hold)

  holding_on : is_held k party_hold ≡ true → (start_verdict b day k).party ≡ None
  unfolding start_verdict judged
  holding_on e =
      ap (λ n. (verdict (scoped (at_start b day k) b) (asking day k) (named_at rejection) (named_at validation_hold) n).party)
      (held_passed b day k party_hold e)
      ∙ no_party (scoped (at_start b day k) b) (asking day k) (named_at rejection) (named_at validation_hold)

  -- of the instruction before it is known not to be cancelled
  abbrev after : Kept
  after = met (start_verdict b day k) (start_exempted b day k) day k

  stays : (hold : ℕ) → is_held k hold ≡ true → held_since after hold ≡ held_since k hold
  unfolding held_since met
  stays hold e =
      cases (eqb hold validation_hold)
      (λ v. rw (v, validating_on (ap (is_held k) (sym (eqb-true hold validation_hold v)) ∙ e)) refl)
      (λ v.
      cases (eqb hold party_hold)
      (λ p. rw (v, p, holding_on (ap (is_held k) (sym (eqb-true hold party_hold p)) ∙ e)) refl)
      (λ p. rw (v, p) refl))

pub hold_stays : HoldStays
hold_stays b day k k' hold e on = ap (λ x. held_since x hold) (sym (start_left b day k k' e)) ∙ stays b day k hold on

-- a day by a deciding rule is the day before or this one
since_days : (day before : ℕ) (t : Bool) → (eqb (cond t day before) before || eqb (cond t day before) day) ≡ true
since_days day before true = rw (eq-eqb day day refl) (or-true (eqb day before))
since_days day before false = rw (eq-eqb before before refl) refl

pub hold_days : HoldDays
unfolding held_since met
hold_days b day k k' hold e =
    ap (λ x. eqb (held_since x hold) (held_since k hold) || eqb (held_since x hold) day) (sym (start_left b day k k' e))
    ∙ cases (eqb hold validation_hold)
    (λ v. rw v (since_days day k.validating (is_on (start_verdict b day k).validation)))
    (λ v.
    cases (eqb hold party_hold)
    (λ p. rw (v, p) (since_days day k.holding (is_on (start_verdict b day k).party)))
    (λ p. rw (v, p) refl))

pub releases_one : ReleasesOne
unfolding held_since is_held released
releases_one = record {
  off = λ k hold.
      cases (eqb hold validation_hold) (λ v. rw v refl)
      (λ v. cases (eqb hold party_hold) (λ p. rw (v, p) refl) (λ p. rw (v, p) refl));
  other = λ k hold one e.
      cases (eqb one validation_hold)
      (λ v. rw (v, ap (eqb hold) (sym (eqb-true one validation_hold v)) ∙ e) refl)
      (λ v.
      cases (eqb one party_hold)
      (λ p. rw (v, p, ap (eqb hold) (sym (eqb-true one party_hold p)) ∙ e) refl)
      (λ p. rw (v, p) refl));
  types = λ k hold. refl;
}

-- ---- no new rule

-- a rule that applies for a type and a sign matches
without_key : (n t o g c m : Bool) → (n && (t && o && g && c && m)) ≡ true → (n && (o && c && m)) ≡ true
without_key false t o g c m e = absurd (false≢true e)
without_key true false o g c m e = absurd (false≢true e)
without_key true true false g c m e = absurd (false≢true e)
without_key true true true false c m e = absurd (false≢true e)
without_key true true true true false m e = absurd (false≢true e)
without_key true true true true true m e = e

abbrev nothing : Verdict
nothing = record { rejection = None; validation = None; party = None }

-- where no type is named, nothing is decided
verdict_none : (b : Book) (q : Question) (n v h : ℕ) → n ≡ 0 → v ≡ 0 → h ≡ 0 → verdict b q n v h ≡ nothing
unfolding verdict decided
verdict_none b q n v h en ev eh = rw (en, ev, eh) refl

module _ (b : Book) (day : ℕ) (k : Kept) (none_new : has (met_anew b day k) b.rules ≡ false) where
  -- the book in which only new rules are, and of the types those that pass a test
  abbrev new_book : (TypeRecord → Bool) → Book
  new_book types = scoped (record { types = types; rules = is_new b day }) b

  -- no rule of it applies, of whatever type and sign
  none_applies : (types : TypeRecord → Bool) (type sign : ℕ)
      → has (rule_applies (new_book types) (asking day k) type sign) (new_book types).rules ≡ false
  unfolding scoped rule_applies matches tests met_anew
  none_applies types type sign =
      cases (has (rule_applies (new_book types) (asking day k) type sign) (new_book types).rules)
      (λ e.
      absurd (false≢true (sym none_new
      ∙ has_under (λ r. true) _ (met_anew b day k) b.rules (every_any b.rules)
      (sym (has_among (rule_applies (new_book types) (asking day k) type sign) (is_new b day) b.rules) ∙ e)
      (λ r z h.
      without_key (is_new b day r) (eqb r.type type) (eqb r.object k.object) (eqb r.sign sign)
      (covers r.first r.last day) (matches b (asking day k) r) h))))
      (λ e. e)

  -- so no type is named, for any processing,
  none_named : (types : TypeRecord → Bool) (processing : ℕ) → named (new_book types) (asking day k) processing ≡ 0
  unfolding named applies scoped
  none_named types processing =
      least_none _ (applies (new_book types) (asking day k) processing) types b.types (λ t e. rw (none_applies types t.type positive, and-false _) refl)

  -- and none is exempted
  none_exempted : (n : ℕ) → start_exempted b day k n ≡ false
  unfolding start_exempted exempted exempts scoped
  none_exempted n =
      has_none _ (λ t. true) b.types (λ t e.
      rw (
        none_applies (λ t. true) t.type negative,
        and-false (eqb t.object k.object && covers t.first t.last day),
        and-false (eqb t.type n),
      )
      refl)

  nothing_on : start_verdict b day k ≡ nothing
  unfolding start_verdict judged
  nothing_on =
      verdict_none (scoped (at_start b day k) b) (asking day k) _ _ _ (none_named (λ t. not (passed_over k t)) rejection)
      (none_named (λ t. not (passed_over k t)) validation_hold) (none_named (λ t. not (passed_over k t)) party_hold)

-- a verdict that puts no hold on and exempts no type leaves an instruction as it is
met_nothing : (exempt : ℕ → Bool) (day : ℕ) (k : Kept) → are_types k.remembered ≡ true
    → ((n : ℕ) → exempt n ≡ false) → met nothing exempt day k ≡ k
unfolding met
met_nothing exempt day k t h =
    let same : (λ n. among k.remembered n || exempt n) ≡ among k.remembered = fun_ext (λ n. rw (h n) (or-false (among k.remembered n))) in
    rw (same, types_which_lem k.remembered t) refl

pub left_as_it_was : LeftAsItWas
unfolding started
left_as_it_was b day k t e =
    rw (nothing_on b day k e) (ap Some (met_nothing (start_exempted b day k) day k t (none_exempted b day k e)))

-- ---- what is remembered

pub memory_stays : MemoryStays
unfolding met entered
memory_stays = record {
  stays = λ b day k k' type e t on.
      ap (λ x. among x.remembered type) (sym (start_left b day k k' e))
      ∙ among_more (among k.remembered) (λ n. among k.remembered n || start_exempted b day k n) type (λ h. rw h refl)
      (ap (λ l. among l type) (types_which_lem k.remembered t) ∙ on);
  entry = λ b reference q. which_types (λ n. among [] n || exempted b q n);
  start = λ b day k k' e.
      ap (λ x. are_types x.remembered) (sym (start_left b day k k' e))
      ∙ which_types (λ n. among k.remembered n || start_exempted b day k n);
}
