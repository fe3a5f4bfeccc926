-- S, W and L leave a list of kept instructions good: within the quota, each in its range, a reference once.
use Rattle.std.proofs.Common.{ℕ, ◌<◌, ◌≡◌, refl, ap, ap₂, sym, ◌∙◌, Bool, true, false, not, cond, ◌&&◌, List, ◌∷◌, Some, None, eqb, length, eqb-true}
use mathlib.Core.Bool.{and-false, or-true}
use borrow.Author.Tests.{not-true}
use Rattle.tables.specs.Count.{has, every, sift, change}
use Rattle.tables.proofs.Counts.{cases, ands}
use Rattle.tables.proofs.Lists.{every_keep, has_never}
use Rattle.tables.proofs.Least.{least_no}
use Rattle.meaning.specs.Forms.{holds, holds_all, optional, day as day_form, reference_form, nine_forms, wrongly_filled}
use Rattle.meaning.specs.Records.{TypeRecord, Kept, Book, Question, instruction_quota, rejection, validation_hold, party_hold}
use Rattle.meaning.specs.Keys.{is_kept}
use Rattle.meaning.specs.Judging.{applies, named, verdict, judged}
use Rattle.meaning.specs.Status.{is_on}
use Rattle.meaning.specs.Scope.{scoped}
use Rattle.meaning.specs.Pending.{are_types, asking, at_start, since, met, fresh, entered, exempted, start_verdict, start_exempted, started, released}
use Rattle.meaning.specs.Sound.{type_fits, nine_of, kept_fits}
use Rattle.meaning.specs.declared.Verdict.{Verdict}
use Rattle.meaning.proofs.Remembered.{which_types}
use Rattle.meaning.proofs.Keeping.{start_left, no_party}
use Rattle.meaning.proofs.Keys.{kept_hit, kept_self}
use Rattle.meaning.proofs.Listed.{Kind, Listed, listed_added, listed_changed, listed_sifted}
use Rattle.meaning.proofs.Good.{keyed}

-- ---- a restriction has no party hold

-- a party hold is of object 1 only
not_restriction : (t : TypeRecord) → type_fits t ≡ true → (eqb t.processing 3 && eqb t.object 2) ≡ false
unfolding type_fits
not_restriction t e = not-true (eqb t.processing 3 && eqb t.object 2) (search ands)

no_restriction : (b : Book) (q : Question) → every type_fits b.types ≡ true → eqb q.object 2 ≡ true
    → named b q party_hold ≡ 0
unfolding named applies
no_restriction b q e o =
    least_no _ (applies b q party_hold) type_fits b.types e
    (λ t f.
    let other = not_restriction t f in
    cases (eqb t.processing 3)
    (λ p.
    let z : eqb t.object q.object ≡ false = ap (eqb t.object) (eqb-true q.object 2 o) ∙ (rw p at other) in
    rw z)
    (λ p. rw (p, and-false (eqb t.object q.object))))

-- so no rule puts it on
no_hold : (b : Book) (q : Question) → every type_fits b.types ≡ true → eqb q.object 2 ≡ true
    → (judged b q).party ≡ None
unfolding judged
no_hold b q e o =
    ap (λ n. (verdict b q (named b q rejection) (named b q validation_hold) n).party) (no_restriction b q e o)
    ∙ no_party b q (named b q rejection) (named b q validation_hold)

-- ---- what an instruction becomes is in its range

-- a hold's day is a day or none
day_since : (day before : ℕ) (t : Bool) → holds day_form day ≡ true → holds (optional day_form) before ≡ true
    → holds (optional day_form) (cond t day before) ≡ true
unfolding holds
day_since day before true d f = rw d (or-true (eqb day 0))
day_since day before false d f = f

met_fits : (v : Verdict) (exempt : ℕ → Bool) (day : ℕ) (k : Kept) → kept_fits k ≡ true → holds day_form day ≡ true
    → (eqb k.object 2 ≡ true → v.party ≡ None) → kept_fits (met v exempt day k) ≡ true
unfolding kept_fits met
met_fits v exempt day k f d h =
    let reference : holds reference_form k.reference ≡ true = search ands in
    let nine : holds_all nine_forms (nine_of k) ≡ true = search ands in
    let filled : not (wrongly_filled k.object k.movement k.payment) ≡ true = search ands in
    let validating : holds (optional day_form) k.validating ≡ true = search ands in
    let holding : holds (optional day_form) k.holding ≡ true = search ands in
    let off : not (eqb k.object 2 && not (eqb k.holding 0)) ≡ true = search ands in
    let off' : not (eqb k.object 2 && not (eqb (since day k.holding v.party) 0)) ≡ true =
    cases (eqb k.object 2) (λ o. rw (h o) off) (λ o. rw o) in
    rw (
      reference,
      nine,
      filled,
      day_since day k.validating (is_on v.validation) d validating,
      day_since day k.holding (is_on v.party) d holding,
      off',
      which_types _,
    )

-- a day that is taken away
none_or : (t : Bool) (n : ℕ) → holds (optional day_form) n ≡ true → holds (optional day_form) (cond t 0 n) ≡ true
unfolding holds
none_or true n e = refl
none_or false n e = e

released_fits : (hold : ℕ) (k : Kept) → kept_fits k ≡ true → kept_fits (released hold k) ≡ true
unfolding kept_fits released
released_fits hold k f =
    let reference : holds reference_form k.reference ≡ true = search ands in
    let nine : holds_all nine_forms (nine_of k) ≡ true = search ands in
    let filled : not (wrongly_filled k.object k.movement k.payment) ≡ true = search ands in
    let validating : holds (optional day_form) k.validating ≡ true = search ands in
    let holding : holds (optional day_form) k.holding ≡ true = search ands in
    let off : not (eqb k.object 2 && not (eqb k.holding 0)) ≡ true = search ands in
    let types : are_types k.remembered ≡ true = search ands in
    let off' : not (eqb k.object 2 && not (eqb (cond (eqb hold party_hold) 0 k.holding) 0)) ≡ true =
    cases (eqb hold party_hold) (λ p. rw (p, and-false (eqb k.object 2))) (λ p. rw p off) in
    rw (
      reference,
      nine,
      filled,
      none_or (eqb hold validation_hold) k.validating validating,
      none_or (eqb hold party_hold) k.holding holding,
      off',
      types,
    )

-- ---- S, W, L

-- alike are those of one reference
abbrev pub kept_kind : Kind Kept
kept_kind = keyed instruction_quota kept_fits is_kept (λ k. k.reference) kept_hit kept_self

module _ (b : Book) (fit : every type_fits b.types ≡ true) {ks : List Kept} (g : Listed kept_kind ks) where
  pub instruction_entered : (reference : ℕ) (q : Question) → kept_fits (fresh reference q) ≡ true
      → holds day_form q.day ≡ true → has (is_kept reference) ks ≡ false → length ks < instruction_quota
      → Listed kept_kind (entered b reference q ∷ ks)
  unfolding entered met
  instruction_entered reference q f d n room =
      listed_added g (entered b reference q)
      (met_fits (judged b q) (exempted b q) q.day (fresh reference q) f d (no_hold b q fit)) n room

  -- what is left of an instruction is in its range, and bears its reference
  started_fits : (day : ℕ) → holds day_form day ≡ true → (k k' : Kept) → kept_fits k ≡ true → started b day k ≡ Some k'
      → kept_fits k' ≡ true
  unfolding start_verdict scoped
  started_fits day d k k' f e =
      ap kept_fits (sym (start_left b day k k' e))
      ∙ met_fits (start_verdict b day k) (start_exempted b day k) day k f d
      (no_hold (scoped (at_start b day k) b) (asking day k) (every_keep type_fits _ b.types fit))

  started_reference : (day : ℕ) (k k' : Kept) → started b day k ≡ Some k' → k.reference ≡ k'.reference
  unfolding met
  started_reference day k k' e = ap (λ x. x.reference) (start_left b day k k' e)

  pub day_started : (day : ℕ) → holds day_form day ≡ true → Listed kept_kind (sift (started b day) ks)
  unfolding is_kept
  day_started day d =
      listed_sifted g (started b day) (started_fits day d)
      (λ x y z w e f a. ap₂ eqb (started_reference day z w f) (started_reference day x y e) ∙ a)

pub hold_released : {ks : List Kept} → Listed kept_kind ks → (reference hold : ℕ)
    → Listed kept_kind (change (is_kept reference) (released hold) ks)
unfolding is_kept released
hold_released {ks} g reference hold =
    listed_changed g (is_kept reference) (λ k. false) (released hold) (has_never ks)
    (λ x z a f. released_fits hold x f) (λ x y z a c h. h) (λ x y z w a c h. h)
