-- The walks along chains: a rule's type, a row's rule, and a record that cannot stand beside another, are found in a
-- chain exactly if the table has them.
use Rattle.std.proofs.Common.{◌≡◌, ℕ, ◌<◌, ◌≤◌, Bool, true, false, ◌&&◌, List, sym, ap, ◌∙◌, eq-eqb, ne_eqb, eqb-true}
use Rattle.std.specs.Prelude.{Option, Some, None}
use mathlib.Core.Bool.{false≢true}
use Rattle.tables.specs.Count.{all_below}
use Rattle.tables.specs.Below.{any_below}
use Rattle.tables.proofs.Counts.{cases, ands, all_at}
use Rattle.tables.proofs.Below.{any_never}
use Rattle.meaning.specs.Forms.{holds, holds_all, ten_values, sequence_form}
use Rattle.meaning.specs.Keys.{is_type, is_rule, filled}
use Rattle.meaning.specs.Sound.{key_fits, rule_fits, fills_rule}
use Rattle.places.specs.Layout.{type_start, type_places, rule_start, rule_places}
use Rattle.places.specs.declared.RestrictionType.{RestrictionType}
use Rattle.places.specs.declared.Rule.{Rule}
use Rattle.places.specs.declared.Row.{Row}
use Rattle.records.specs.Said.{type_of, rule_of, row_of}
use Rattle.records.specs.Asks.{type_meets, rule_meets}
use Rattle.chains.specs.Sizes.{buckets, most_places}
use Rattle.chains.specs.declared.Seen.{Seen}
use Rattle.chains.specs.Chains.{in_bucket, Walkable, Walked, right}
use Rattle.soundness.specs.Reads.{type_read, rule_read, row_read, key_holds}
use Rattle.soundness.specs.Alike.{typed_by, ruled_by, filled_or_none}
use Rattle.soundness.specs.Buckets.{type_bucket, type_bucket_of, rule_bucket, rule_bucket_of}
use Rattle.soundness.specs.Kinds.{address_of, alike_at, csd_at, bucket_at, fit_at, csd_of, free_of, bucket_of, same_of, fit_of, right_of, typed_in, ruled_in, ChainedOf}
use Rattle.soundness.specs.Kind.{Kind}
use Rattle.soundness.specs.Kind as Kinds
use Rattle.soundness.proofs.Options.{some_none, some_same}
use Rattle.soundness.proofs.KindFacts.{kind_nobody, kind_only}

-- An owner has its record's depository and is in the bucket that is looked through.

typed_by_lem : (r : Rule) (t : RestrictionType) → typed_by r t ≡ true → (t.csd ≡ r.csd) × (type_bucket t ≡ type_bucket_of r)
unfolding typed_by type_bucket type_bucket_of type_meets is_type type_of
typed_by_lem r t e =
    let x = eqb-true t.csd r.csd (search ands) in
    let y = eqb-true t.number r.number (search ands) in
    let z = eqb-true t.object r.object (search ands) in
    (x, rw (x, y, z))

ruled_by_lem : (w : Row) (t : Rule) → ruled_by w t ≡ true → (t.csd ≡ w.csd) × (rule_bucket t ≡ rule_bucket_of w)
unfolding ruled_by rule_bucket rule_bucket_of rule_meets fills_rule is_rule rule_of row_of
ruled_by_lem w t e =
    let x = eqb-true t.csd w.csd (search ands) in
    let y = eqb-true t.number w.number (search ands) in
    let z = eqb-true t.object w.object (search ands) in
    let s = eqb-true t.sequence w.sequence (search ands) in
    (x, rw (x, y, z, s))

-- A place of that depository and bucket is in the chain.
in_chain : (b : List ℕ) (kind : Kind) (c k j : ℕ) → (c ≡ 0 → ⊥) → (csd_of b kind j ≡ c) × (bucket_of b kind j ≡ k)
    → in_bucket (csd_of b kind) (bucket_of b kind) k j ≡ true
in_chain b kind c k j u o = rw (ne_eqb (csd_of b kind j) 0 (λ z. u (sym o.0 ∙ z))) (eq-eqb (bucket_of b kind j) k o.1)

-- ---- a rule's type

module _ (b : List ℕ) (kind : Kind) (s : Seen) (k n : ℕ) (may : ℕ → Type 0) where
  -- The places of a table in chains may be walked along, where what is asked may be asked at each of them.
  pub walkable : ChainedOf b kind s n → n ≤ most_places → k < buckets → ((j : ℕ) → j < n → may j) → Walkable s k may
  walkable m l h f = record { csd = csd_of b kind; bucket = bucket_of b kind; places = n; chained = m; few = l; inside = h; each = f }

module _ (b : List ℕ) (at : ℕ) where
  pub typed_walk : (s : Seen) (k : ℕ) (says : ℕ → Bool → Type 0) (r : Bool) → Walked s k says r
      → k ≡ type_bucket_of (rule_read b at) → (csd_at b at ≡ 0 → ⊥) → ChainedOf b Kinds.Types s type_places
      → ((n : ℕ) (t : Bool) → n < type_places → says n t → t ≡ typed_in b at n)
      → r ≡ any_below (typed_in b at) type_places
  unfolding csd_at csd_of bucket_at bucket_of typed_in type_read rule_read
  typed_walk s k says r w e u m ties =
      w (csd_of b Kinds.Types) (bucket_of b Kinds.Types) type_places (typed_in b at) m
      (λ x y.
      rw e
      (in_chain b Kinds.Types (csd_at b at) (type_bucket_of (rule_read b at)) x u (typed_by_lem (rule_read b at) (type_read b (type_start x)) y))) ties

  pub typed_here : (j other : ℕ) (r : Bool) → r ≡ typed_by (rule_read b at) (type_read b other) → other ≡ type_start j
      → r ≡ typed_in b at j
  unfolding typed_in
  typed_here j other r e f = e ∙ ap (λ x. typed_by (rule_read b at) (type_read b x)) f

-- ---- a row's rule

module _ (b : List ℕ) (at : ℕ) where
  ruled_walk : (s : Seen) (k : ℕ) (says : ℕ → Bool → Type 0) (r : Bool) → Walked s k says r
      → k ≡ rule_bucket_of (row_read b at) → (csd_at b at ≡ 0 → ⊥) → ChainedOf b Kinds.Rules s rule_places
      → ((n : ℕ) (t : Bool) → n < rule_places → says n t → t ≡ ruled_in b at n)
      → r ≡ any_below (ruled_in b at) rule_places
  unfolding csd_at csd_of bucket_at bucket_of ruled_in rule_read row_read
  ruled_walk s k says r w e u m ties =
      w (csd_of b Kinds.Rules) (bucket_of b Kinds.Rules) rule_places (ruled_in b at) m
      (λ x y.
      rw e
      (in_chain b Kinds.Rules (csd_at b at) (rule_bucket_of (row_read b at)) x u (ruled_by_lem (row_read b at) (rule_read b (rule_start x)) y))) ties

  pub ruled_here : (j other : ℕ) (r : Bool) → r ≡ ruled_by (row_read b at) (rule_read b other) → other ≡ rule_start j
      → r ≡ ruled_in b at j
  unfolding ruled_in
  ruled_here j other r e f = e ∙ ap (λ x. ruled_by (row_read b at) (rule_read b x)) f

  -- the values' ranges stand beside: there are criteria where each value is in its range

  module _ (o : Option ℕ) (e : o ≡ filled_or_none (row_read b at).values) where
    values_fit : (n : ℕ) → o ≡ Some n → holds_all ten_values (row_read b at).values ≡ true
    unfolding filled_or_none
    values_fit n f =
        cases (holds_all ten_values (row_read b at).values) (λ t. t)
        (λ t. absurd (some_none (sym f ∙ rw t at e)))

    pub criteria_filled : (n : ℕ) → o ≡ Some n → n ≡ filled (row_read b at).values
    unfolding filled_or_none
    criteria_filled n f = some_same (sym f ∙ rw (values_fit n f) at e)

    pub ruled_unfit : o ≡ None
        → false ≡ (holds_all ten_values (row_read b at).values && any_below (ruled_in b at) rule_places)
    unfolding filled_or_none
    ruled_unfit f =
        cases (holds_all ten_values (row_read b at).values)
        (λ t. absurd (some_none (sym (rw t at e) ∙ f)))
        (λ t. rw t)

    pub ruled_found : (n : ℕ) (s : Seen) (k : ℕ) (says : ℕ → Bool → Type 0) (r : Bool) → Walked s k says r → o ≡ Some n
        → k ≡ rule_bucket_of (row_read b at) → (csd_at b at ≡ 0 → ⊥) → ChainedOf b Kinds.Rules s rule_places
        → ((j : ℕ) (t : Bool) → j < rule_places → says j t → t ≡ ruled_in b at j)
        → r ≡ (holds_all ten_values (row_read b at).values && any_below (ruled_in b at) rule_places)
    ruled_found n s k says r w f h u m ties = rw (values_fit n f) (ruled_walk s k says r w h u m ties)

  -- a rule that is right has its key in its range, so its rows have

  row_key_lem : (r : Rule) → ruled_by (row_read b at) r ≡ true → rule_fits (rule_of r) ≡ true → key_holds b at ≡ true
  unfolding ruled_by rule_meets fills_rule is_rule rule_of row_of rule_fits key_holds row_read
  row_key_lem r e f =
      let y = eqb-true r.number (row_read b at).number (search ands) in
      let z = eqb-true r.object (row_read b at).object (search ands) in
      let s = eqb-true r.sequence (row_read b at).sequence (search ands) in
      let k : (key_fits r.number r.object && holds sequence_form r.sequence) ≡ true = search ands in
      rw (y, z, s) at k

  rule_right : (j : ℕ) → (csd_at b at ≡ 0 → ⊥) → ruled_in b at j ≡ true → right_of b Kinds.Rules j ≡ true
      → key_holds b at ≡ true
  unfolding right_of right free_of fit_of fit_at csd_at csd_of ruled_in row_read rule_read
  rule_right j u e f =
      let x = ruled_by_lem (row_read b at) (rule_read b (rule_start j)) e in
      let t : free_of b Kinds.Rules j ≡ false =
      cases (free_of b Kinds.Rules j) (λ z. absurd (u (sym x.0 ∙ kind_nobody b Kinds.Rules (address_of Kinds.Rules j) z))) (λ z. z) in
      let g = rw t at f in
      row_key_lem (rule_read b (rule_start j)) e (search ands)

  pub ruled_key_lem : all_below (right_of b Kinds.Rules) rule_places ≡ true → (csd_at b at ≡ 0 → ⊥)
      → any_below (ruled_in b at) rule_places ≡ true → key_holds b at ≡ true
  ruled_key_lem f u e =
      cases (key_holds b at) (λ t. t)
      (λ t.
      absurd
      (false≢true
      (sym (any_never (ruled_in b at) rule_places
      (λ j l.
      cases (ruled_in b at j)
      (λ y. absurd (false≢true (sym t ∙ rule_right j u y (all_at (right_of b Kinds.Rules) rule_places f j l))))
      (λ y. y)))
      ∙ e)))

-- ---- a record that cannot stand beside that of place i

module _ (b : List ℕ) (kind : Kind) (i : ℕ) where
  pub held_walk : (s : Seen) (k : ℕ) (says : ℕ → Bool → Type 0) (r : Bool) → Walked s k says r → k ≡ bucket_of b kind i
      → (csd_of b kind i ≡ 0 → ⊥) → ChainedOf b kind s i
      → ((n : ℕ) (t : Bool) → n < i → says n t → t ≡ same_of b kind i n) → r ≡ any_below (same_of b kind i) i
  unfolding csd_of bucket_of same_of
  held_walk s k says r w e u m ties =
      w (csd_of b kind) (bucket_of b kind) i (same_of b kind i) m
      (λ x y.
      rw e
      (in_chain b kind (csd_of b kind i) (bucket_of b kind i) x u (kind_only b kind (address_of kind i) (address_of kind x) y))) ties

  pub held_here : (j at other : ℕ) (r : Bool) → r ≡ alike_at b kind at other → other ≡ address_of kind j
      → at ≡ address_of kind i → r ≡ same_of b kind i j
  unfolding same_of
  held_here j at other r e g f = rw (e, f, g)
