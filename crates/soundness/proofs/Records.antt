-- What chains need of the records of each table: records that are alike have one depository and one bucket, each is
-- alike to the other, and a record in its range is alike to itself.
use Rattle.std.proofs.Common.{◌≡◌, ℕ, ◌/◌, ◌<◌, true, eqb, leb, sym, refl, arith, eq-eqb, eqb-true}
use Rattle.tables.proofs.Counts.{ands}
use Rattle.meaning.specs.Keys.{is_type, is_rule, of_rule, is_row, clash}
use Rattle.meaning.specs.Sound.{days_fit, period_fits}
use Rattle.meaning.proofs.SameLists.{same_self, same_back, same_numbers}
use Rattle.places.specs.declared.RestrictionType.{RestrictionType}
use Rattle.places.specs.declared.Rule.{Rule}
use Rattle.places.specs.declared.Row.{Row}
use Rattle.places.specs.declared.Period.{Period}
use Rattle.records.specs.Said.{type_of, rule_of, row_of, period_of}
use Rattle.records.specs.Asks.{type_meets, rule_meets, row_meets, period_meets}
use Rattle.chains.specs.Sizes.{buckets}
use Rattle.soundness.specs.Alike.{type_alike, rule_alike, row_alike, period_alike}
use Rattle.soundness.specs.Buckets.{key_bucket, type_bucket, rule_bucket, row_bucket, period_bucket}

eqb_back : (x y : ℕ) → eqb x y ≡ true → eqb y x ≡ true
eqb_back x y e = eq-eqb y x (sym (eqb-true x y e))

eqb_self : (x : ℕ) → eqb x x ≡ true
eqb_self x = eq-eqb x x refl

-- ---- types

pub type_only : (t s : RestrictionType) → type_alike t s ≡ true → (s.csd ≡ t.csd) × (type_bucket s ≡ type_bucket t)
unfolding type_alike type_bucket type_meets is_type type_of
type_only t s e =
    let x = eqb-true s.csd t.csd (search ands) in
    let y = eqb-true s.number t.number (search ands) in
    let z = eqb-true s.object t.object (search ands) in
    (x, rw (x, y, z))

pub type_back : (t s : RestrictionType) → type_alike t s ≡ true → type_alike s t ≡ true
unfolding type_alike type_meets is_type type_of
type_back t s e =
    rw (
      eqb_back s.csd t.csd (search ands),
      eqb_back s.number t.number (search ands),
      eqb_back s.object t.object (search ands),
    )

pub type_self : (t : RestrictionType) → type_alike t t ≡ true
unfolding type_alike type_meets is_type type_of
type_self t = rw (eqb_self t.csd, eqb_self t.number, eqb_self t.object)

pub type_inside : (t : RestrictionType) → type_bucket t < buckets
unfolding type_bucket key_bucket
type_inside t = omega arith

-- ---- rules

pub rule_only : (t s : Rule) → rule_alike t s ≡ true → (s.csd ≡ t.csd) × (rule_bucket s ≡ rule_bucket t)
unfolding rule_alike rule_bucket rule_meets is_rule rule_of
rule_only t s e =
    let x = eqb-true s.csd t.csd (search ands) in
    let y = eqb-true s.number t.number (search ands) in
    let z = eqb-true s.object t.object (search ands) in
    let w = eqb-true s.sequence t.sequence (search ands) in
    (x, rw (x, y, z, w))

pub rule_back : (t s : Rule) → rule_alike t s ≡ true → rule_alike s t ≡ true
unfolding rule_alike rule_meets is_rule rule_of
rule_back t s e =
    rw (
      eqb_back s.csd t.csd (search ands),
      eqb_back s.sequence t.sequence (search ands),
      eqb_back s.number t.number (search ands),
      eqb_back s.object t.object (search ands),
    )

pub rule_self : (t : Rule) → rule_alike t t ≡ true
unfolding rule_alike rule_meets is_rule rule_of
rule_self t = rw (eqb_self t.csd, eqb_self t.sequence, eqb_self t.number, eqb_self t.object)

pub rule_inside : (t : Rule) → rule_bucket t < buckets
unfolding rule_bucket key_bucket
rule_inside t = omega arith

-- ---- rows

pub row_only : (t s : Row) → row_alike t s ≡ true → (s.csd ≡ t.csd) × (row_bucket s ≡ row_bucket t)
unfolding row_alike row_bucket row_meets is_row of_rule row_of
row_only t s e =
    let x = eqb-true s.csd t.csd (search ands) in
    let y = eqb-true s.number t.number (search ands) in
    let z = eqb-true s.object t.object (search ands) in
    let w = eqb-true s.sequence t.sequence (search ands) in
    let v = sym (same_numbers t.values s.values (search ands)) in
    (x, rw (x, y, z, w, v))

pub row_back : (t s : Row) → row_alike t s ≡ true → row_alike s t ≡ true
unfolding row_alike row_meets is_row of_rule row_of
row_back t s e =
    rw (
      eqb_back s.csd t.csd (search ands),
      eqb_back s.sequence t.sequence (search ands),
      eqb_back s.number t.number (search ands),
      eqb_back s.object t.object (search ands),
      same_back t.values s.values (search ands),
    )

pub row_self : (t : Row) → row_alike t t ≡ true
unfolding row_alike row_meets is_row of_rule row_of
row_self t =
    rw (
      eqb_self t.csd,
      eqb_self t.sequence,
      eqb_self t.number,
      eqb_self t.object,
      same_self t.values,
    )

pub row_inside : (t : Row) → row_bucket t < buckets
unfolding row_bucket key_bucket
row_inside t = omega arith

-- ---- periods

pub period_only : (t s : Period) → period_alike t s ≡ true → (s.csd ≡ t.csd) × (period_bucket s ≡ period_bucket t)
unfolding period_alike period_bucket period_meets clash period_of
period_only t s e =
    let x = eqb-true s.csd t.csd (search ands) in
    let y = eqb-true s.kind t.kind (search ands) in
    let z = eqb-true s.number t.number (search ands) in
    let w = eqb-true (s.code / 100) (t.code / 100) (search ands) in
    (x, rw (x, y, z, w))

pub period_back : (t s : Period) → period_alike t s ≡ true → period_alike s t ≡ true
unfolding period_alike period_meets clash period_of
period_back t s e =
    let first : leb t.first s.last ≡ true = search ands in
    let last : leb s.first t.last ≡ true = search ands in
    rw (
      eqb_back s.csd t.csd (search ands),
      eqb_back s.kind t.kind (search ands),
      eqb_back s.number t.number (search ands),
      eqb_back (s.code / 100) (t.code / 100) (search ands),
      first,
      last,
    )

-- A period that is in its range shares a day with itself.
pub period_self : (t : Period) → period_fits (period_of t) ≡ true → period_alike t t ≡ true
unfolding period_fits days_fit period_alike period_meets clash period_of
period_self t e =
    let days : leb t.first t.last ≡ true = search ands in
    rw (eqb_self t.csd, eqb_self t.kind, eqb_self t.number, eqb_self (t.code / 100), days)

pub period_inside : (t : Period) → period_bucket t < buckets
unfolding period_bucket
period_inside t = omega arith
