-- THE DECISION: the places of each table are right by the whole table exactly if they are right by those before them.
use Rattle.std.proofs.Common.{◌≡◌, ℕ, Bool, true, false, ◌&&◌, ◌||◌, leb, List, length, sym, refl, ap, ◌∙◌, ap₂}
use Rattle.tables.specs.Count.{count, has, count_below, all_below}
use Rattle.tables.proofs.Lone.{count_lone}
use Rattle.tables.proofs.Room.{lone_length}
use Rattle.tables.proofs.Below.{has_lone}
use Rattle.tables.proofs.Each.{all_same}
use Rattle.meaning.specs.Records.{type_quota, rule_quota, row_quota, period_quota}
use Rattle.meaning.specs.Fields.{within}
use Rattle.meaning.specs.Keys.{is_type, is_rule, is_row, clash}
use Rattle.meaning.specs.Sound.{type_fits, rule_fits, row_fits, period_fits, fills_rule, good_type, good_rule, good_row, good_period}
use Rattle.places.specs.Layout.{type_at, rule_at, row_at, period_at, type_places, rule_places, row_places, period_places}
use Rattle.records.specs.Said.{type_of, rule_of, row_of, period_of}
use Rattle.records.specs.Free.{type_zero, rule_zero, row_zero, period_zero}
use Rattle.records.specs.Asks.{type_meets, rule_meets, row_meets, period_meets}
use Rattle.book.specs.Lone.{types_of, rules_of, rows_of, periods_of}
use Rattle.chains.proofs.Earlier.{whole, pairs_earlier}
use Rattle.soundness.specs.Places.{held_type, held_rule, held_row, held_period, type_ok, rule_ok, row_ok, period_ok}
use Rattle.soundness.specs.Reads.{type_read, rule_read, row_read, period_read}
use Rattle.soundness.specs.Alike.{type_alike, rule_alike, row_alike, period_alike, typed_by, ruled_by}
use Rattle.soundness.specs.Kinds.{
  table_of,
  address_of,
  csd_at,
  free_at,
  alike_at,
  fit_at,
  typed_in,
  ruled_in,
  csd_of,
  free_of,
  bucket_of,
  same_of,
  fit_of,
  right_of,
}
use Rattle.soundness.specs.Kind.{Kind}
use Rattle.soundness.specs.Kind as Kinds
use Rattle.soundness.proofs.KindFacts.{kind_nobody, kind_only, kind_back, kind_self}

-- the parts of a test in another order

one_rest : (f o l : Bool) → ((f && o) && l) ≡ (f && (o && l))
one_rest true o l = refl
one_rest false o l = refl

two_rests : (f o h l : Bool) → ((f && (o && h)) && l) ≡ ((f && h) && (o && l))
two_rests false o h l = refl
two_rests true true true l = refl
two_rests true true false l = refl
two_rests true false true l = refl
two_rests true false false l = refl

module _ (b : List ℕ) where
  abbrev whole_of : Kind → ℕ → Bool
  whole_of kind = whole (csd_of b kind) (free_of b kind) (fit_of b kind) (same_of b kind) (table_of kind).quota (table_of kind).places

  earlier : (kind : Kind) → all_below (whole_of kind) (table_of kind).places ≡ all_below (right_of b kind) (table_of kind).places
  unfolding csd_of free_of bucket_of same_of fit_of right_of
  earlier kind =
      pairs_earlier (csd_of b kind) (free_of b kind) (fit_of b kind) (same_of b kind) (table_of kind).quota (table_of kind).places
      (λ k e. kind_nobody b kind (address_of kind k) e)
      (λ k j e. kind_back b kind (address_of kind k) (address_of kind j) e)
      (λ k j e. (kind_only b kind (address_of kind k) (address_of kind j) e).0)
      (λ k e. kind_self b kind (address_of kind k) e)

  pub types_whole : all_below (type_ok b) type_places ≡ all_below (right_of b Kinds.Types) type_places
  unfolding type_ok held_type good_type types_of type_at type_read csd_at csd_of free_at free_of alike_at same_of type_alike type_meets type_of fit_at fit_of
  types_whole =
      all_same (type_ok b) (whole_of Kinds.Types) type_places
      (λ k.
      ap (λ x. type_zero (type_at b k) || (within 1 8 (type_at b k).csd && x))
      (one_rest (type_fits (type_of (type_at b k))) (leb (count (is_type (type_at b k).number (type_at b k).object) (types_of (type_at b k).csd b)) 1)
      (leb (length (types_of (type_at b k).csd b)) type_quota)
      ∙ ap₂ (λ m n. type_fits (type_of (type_at b k)) && (leb m 1 && leb n type_quota))
      (count_lone (λ r. r.csd) type_of (type_at b k).csd (is_type (type_at b k).number (type_at b k).object) (type_at b) type_places)
      (sym (lone_length (λ r. r.csd) type_of (type_at b) type_places (type_at b k).csd))))
      ∙ earlier Kinds.Types

  pub rules_whole : all_below (rule_ok b) rule_places ≡ all_below (right_of b Kinds.Rules) rule_places
  unfolding rule_ok held_rule good_rule rules_of types_of type_at type_read rule_at rule_read csd_at csd_of free_at free_of alike_at same_of rule_alike rule_meets type_meets rule_of fit_at fit_of typed_in typed_by
  rules_whole =
      all_same (rule_ok b) (whole_of Kinds.Rules) rule_places
      (λ k.
      let r = rule_at b k in
      ap (λ x. rule_zero (rule_at b k) || (within 1 8 (rule_at b k).csd && x))
      (two_rests (rule_fits (rule_of r)) (leb (count (is_rule r.number r.object r.sequence) (rules_of r.csd b)) 1)
      (has (is_type r.number r.object) (types_of r.csd b)) (leb (length (rules_of r.csd b)) rule_quota)
      ∙ ap₂ (λ h m. (rule_fits (rule_of (rule_at b k)) && h) && (leb m 1 && leb (length (rules_of (rule_at b k).csd b)) rule_quota))
      (has_lone (λ r. r.csd) type_of r.csd (type_at b) (is_type r.number r.object) type_places)
      (count_lone (λ r. r.csd) rule_of r.csd (is_rule r.number r.object r.sequence) (rule_at b) rule_places)
      ∙ ap (λ n. fit_of b Kinds.Rules k && (leb (count_below (same_of b Kinds.Rules k) rule_places) 1 && leb n rule_quota))
      (sym (lone_length (λ r. r.csd) rule_of (rule_at b) rule_places r.csd))))
      ∙ earlier Kinds.Rules

  pub rows_whole : all_below (row_ok b) row_places ≡ all_below (right_of b Kinds.Rows) row_places
  unfolding row_ok held_row good_row rows_of rules_of rule_at rule_read row_at row_read csd_at csd_of free_at free_of alike_at same_of row_alike rule_meets row_meets row_of fit_at fit_of ruled_in ruled_by
  rows_whole =
      all_same (row_ok b) (whole_of Kinds.Rows) row_places
      (λ k.
      let r = row_at b k in
      ap (λ x. row_zero (row_at b k) || (within 1 8 (row_at b k).csd && x))
      (two_rests (row_fits (row_of r)) (leb (count (is_row (row_of r)) (rows_of r.csd b)) 1) (has (fills_rule (row_of r)) (rules_of r.csd b))
      (leb (length (rows_of r.csd b)) row_quota)
      ∙ ap₂ (λ h m. (row_fits (row_of (row_at b k)) && h) && (leb m 1 && leb (length (rows_of (row_at b k).csd b)) row_quota))
      (has_lone (λ r. r.csd) rule_of r.csd (rule_at b) (fills_rule (row_of r)) rule_places)
      (count_lone (λ r. r.csd) row_of r.csd (is_row (row_of r)) (row_at b) row_places)
      ∙ ap (λ n. fit_of b Kinds.Rows k && (leb (count_below (same_of b Kinds.Rows k) row_places) 1 && leb n row_quota))
      (sym (lone_length (λ r. r.csd) row_of (row_at b) row_places r.csd))))
      ∙ earlier Kinds.Rows

  pub periods_whole : all_below (period_ok b) period_places ≡ all_below (right_of b Kinds.Periods) period_places
  unfolding period_ok held_period good_period periods_of period_at period_read csd_at csd_of free_at free_of alike_at same_of period_alike period_meets fit_at fit_of
  periods_whole =
      all_same (period_ok b) (whole_of Kinds.Periods) period_places
      (λ k.
      ap (λ x. period_zero (period_at b k) || (within 1 8 (period_at b k).csd && x))
      (one_rest (period_fits (period_of (period_at b k))) (leb (count (clash (period_of (period_at b k))) (periods_of (period_at b k).csd b)) 1)
      (leb (length (periods_of (period_at b k).csd b)) period_quota)
      ∙ ap₂ (λ m n. period_fits (period_of (period_at b k)) && (leb m 1 && leb n period_quota))
      (count_lone (λ r. r.csd) period_of (period_at b k).csd (clash (period_of (period_at b k))) (period_at b) period_places)
      (sym (lone_length (λ r. r.csd) period_of (period_at b) period_places (period_at b k).csd))))
      ∙ earlier Kinds.Periods
