-- Verdicts of the same types with other sequences: what they name.
use Rattle.std.proofs.Common.{ℕ, zero, suc, ◌≡◌, refl, ap, ap₂, sym, ◌∙◌, Bool, true, false, ◌&&◌, ◌||◌, Option, Some, None, is_some, unwrap_or, eqb, eqb-true, eq-eqb}
use mathlib.Core.Path.{fun_ext}
use mathlib.Core.Bool.{or-true, false≢true}
use Rattle.tables.specs.Count.{has, least}
use Rattle.tables.proofs.Counts.{cases, both, neither}
use Rattle.meaning.specs.Records.{Book, Question, rejection, validation_hold, party_hold}
use Rattle.meaning.specs.Judging.{by, rule_applies, named, deciding, decided, verdict, judged}
use Rattle.meaning.specs.Exercise.{sequenced, resequenced, type_named, SameTypes, is_deciding, names_rule}
use Rattle.meaning.specs.declared.Deciding.{Deciding}
use Rattle.meaning.specs.declared.Verdict.{Verdict}
use Rattle.meaning.proofs.OrderJudged.{applies_alike}

-- ---- what is judged

-- a book that names the same types, with sequences by f
module _ (b c : Book) (q : Question) (f : ℕ → ℕ) (d : (type : ℕ) → deciding c q type ≡ f type) where
  decided_by : (type : ℕ) → decided c q type ≡ sequenced f (decided b q type)
  unfolding decided
  decided_by zero = refl
  decided_by (suc type) = ap (λ s. Some (by (suc type) s)) (d (suc type))

  verdict_by_lem : (type validating holding : ℕ)
      → verdict c q type validating holding ≡ resequenced f (verdict b q type validating holding)
  unfolding verdict resequenced
  verdict_by_lem zero validating holding = rw (decided_by validating, decided_by holding)
  verdict_by_lem (suc type) validating holding = rw (decided_by (suc type))

  pub judged_by_lem : ((processing : ℕ) → named c q processing ≡ named b q processing) → judged c q ≡ resequenced f (judged b q)
  unfolding judged
  judged_by_lem n =
      rw (n rejection, n validation_hold, n party_hold)
      (verdict_by_lem (named b q rejection) (named b q validation_hold) (named b q party_hold))

pub judged_own : (b : Book) (q : Question) → judged b q ≡ resequenced (deciding b q) (judged b q)
judged_own b q = judged_by_lem b b q (deciding b q) (λ type. refl) (λ processing. refl)

-- a book with the same types, of each of which a rule applies exactly if one did, names the same types
module _ (b c : Book) (q : Question) (e : c.types ≡ b.types)
    (some : (type sign : ℕ) → has (rule_applies c q type sign) c.rules ≡ has (rule_applies b q type sign) b.rules)
  where
    pub named_alike : (processing : ℕ) → named c q processing ≡ named b q processing
    unfolding named
    named_alike processing = ap₂ (least (λ t. t.type)) (applies_alike c b q some processing) e

    -- and is judged alike where the same rules decide
    pub judged_alike : ((type : ℕ) → deciding c q type ≡ deciding b q type) → judged c q ≡ judged b q
    judged_alike d = judged_by_lem b c q (deciding b q) d named_alike ∙ sym (judged_own b q)

-- ---- the types stay

type_stays : (f : ℕ → ℕ) (d : Option Deciding) → type_named (sequenced f d) ≡ type_named d
type_stays f None = refl
type_stays f (Some d) = refl

some_stays : (f : ℕ → ℕ) (d : Option Deciding) → is_some (sequenced f d) ≡ is_some d
some_stays f None = refl
some_stays f (Some d) = refl

pub types_stay : (f : ℕ → ℕ) (v : Verdict) → SameTypes (resequenced f v) v
unfolding resequenced
types_stay f v = record {
  rejected = some_stays f v.rejection;
  rejection = type_stays f v.rejection;
  validation = type_stays f v.validation;
  party = type_stays f v.party;
}

-- ---- which rule is named

pub either : {P : Type 0} (a b : Bool) → (a || b) ≡ true → (a ≡ true → P) → (b ≡ true → P) → P
either true b e y n = y refl
either false b e y n = n e

module _ (type : ℕ) where
  -- a type that is named stands there, with its sequence
  it_named : (f : ℕ → ℕ) (k : ℕ) (d : Option Deciding) → is_deciding type k (sequenced f d) ≡ true
      → (type_named d ≡ Some type) × (f type ≡ k)
  it_named f k None t = absurd (false≢true t)
  it_named f k (Some d) t =
      let c = both (eqb d.number type) (eqb (f d.number) k) t in
      let z = eqb-true d.number type c.0 in
      (ap Some z, ap f (sym z) ∙ eqb-true (f d.number) k c.1)

  it_again : (f : ℕ → ℕ) (d : Option Deciding) → type_named d ≡ Some type → is_deciding type (f type) (sequenced f d) ≡ true
  it_again f None e = absurd (false≢true (ap is_some e))
  it_again f (Some d) e =
      let z : d.number ≡ type = ap (λ o. unwrap_or o 0) e in
      rw (eq-eqb d.number type z, eq-eqb (f d.number) (f type) (ap f z))

  pub named_by : (f : ℕ → ℕ) (k : ℕ) (v : Verdict) → names_rule type k (resequenced f v) ≡ true → f type ≡ k
  unfolding names_rule resequenced
  named_by f k v e =
      either _ _ e (λ t. (it_named f k v.rejection t).1)
      (λ e. either _ _ e (λ t. (it_named f k v.validation t).1) (λ t. (it_named f k v.party t).1))

  -- it is named by other sequences too
  pub named_again : (f g : ℕ → ℕ) (k : ℕ) (v : Verdict) → names_rule type k (resequenced f v) ≡ true
      → names_rule type (g type) (resequenced g v) ≡ true
  unfolding names_rule resequenced
  named_again f g k v e =
      let again : (d : Option Deciding) → is_deciding type k (sequenced f d) ≡ true
      → is_deciding type (g type) (sequenced g d) ≡ true =
      λ d t. it_again g d (it_named f k d t).0 in
      either _ _ e (λ t. rw (again v.rejection t))
      (λ e.
      either _ _ e
      (λ t. rw (again v.validation t) (or-true (is_deciding type (g type) (sequenced g v.rejection))))
      (λ t.
      rw (again v.party t, or-true (is_deciding type (g type) (sequenced g v.validation)))
      (or-true (is_deciding type (g type) (sequenced g v.rejection)))))

-- ---- two sequences of the same verdict

-- the types that are named have the same sequence by both
pub resequenced_same : (f g : ℕ → ℕ) (v : Verdict) → ((type : ℕ) → f type ≡ g type) → resequenced f v ≡ resequenced g v
resequenced_same f g v h = ap (λ s. resequenced s v) (fun_ext h)

parted : (on a b c : Bool) → (on && (a || (b || c))) ≡ false
    → ((on && a) ≡ false) × ((on && b) ≡ false) × ((on && c) ≡ false)
parted false a b c e = (refl, refl, refl)
parted true a b c e = let d = neither a (b || c) e in let f = neither b c d.1 in (d.0, f.0, f.1)

module _ (f g : ℕ → ℕ) (type j k : ℕ) (on : Bool)
    (same : (n : ℕ) → (on && eqb n type) ≡ false → g n ≡ f n)
    (apart : (f type ≡ j → ⊥) → (g type ≡ k → ⊥) → g type ≡ f type) where
  one_stays : (x : Option Deciding) → (on && is_deciding type j (sequenced f x)) ≡ false
      → (on && is_deciding type k (sequenced g x)) ≡ false → sequenced g x ≡ sequenced f x
  one_stays None d e = refl
  one_stays (Some x) d e =
      ap (λ s. Some (by x.number s))
      (cases (on && eqb x.number type)
      (λ t.
      let c = both on (eqb x.number type) t in
      let z = eqb-true x.number type c.1 in
      ap g z
      ∙ apart (λ y. false≢true (sym (rw (c.0, c.1) at d) ∙ eq-eqb (f x.number) j (ap f z ∙ y)))
      (λ y. false≢true (sym (rw (c.0, c.1) at e) ∙ eq-eqb (g x.number) k (ap g z ∙ y)))
      ∙ ap f (sym z))
      (λ t. same x.number t))

  -- where neither names its rule of that type, both are one verdict
  pub all_stay : (v : Verdict) → (on && names_rule type j (resequenced f v)) ≡ false
      → (on && names_rule type k (resequenced g v)) ≡ false → resequenced g v ≡ resequenced f v
  unfolding names_rule resequenced
  all_stay v d e =
      let a = parted on _ _ _ d in
      let b = parted on _ _ _ e in
      rw (
        one_stays v.rejection a.0 b.0,
        one_stays v.validation a.1 b.1,
        one_stays v.party a.2 b.2,
      )
