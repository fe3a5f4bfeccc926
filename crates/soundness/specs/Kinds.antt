-- The tables of the book by kind: where their places are, and what soundness asks of the record at an address. A new
-- table adds a line to each definition. Assumes nothing.
use Rattle.std.specs.Prelude.{◌≡◌, ℕ, ◌+◌, ◌*◌, Bool, true, cond, ◌&&◌, List, Option, Some, None}
use Rattle.tables.specs.Count.{all_below}
use Rattle.tables.specs.Bytes.{byte_at}
use Rattle.tables.specs.Below.{any_below}
use Rattle.meaning.specs.Records.{type_quota, rule_quota, row_quota, period_quota}
use Rattle.meaning.specs.Sound.{type_fits, rule_fits, row_fits, period_fits}
use Rattle.places.specs.Layout.{
  type_base,
  type_width,
  type_places,
  type_start,
  rule_base,
  rule_width,
  rule_places,
  rule_start,
  row_base,
  row_width,
  row_places,
  period_base,
  period_width,
  period_places,
}
use Rattle.records.specs.Said.{type_of, rule_of, row_of, period_of}
use Rattle.records.specs.Free.{type_zero, rule_zero, row_zero, period_zero}
use Rattle.chains.specs.declared.Seen.{Seen}
use Rattle.chains.specs.Chains.{right, Chained}
use Rattle.soundness.specs.Reads.{type_read, rule_read, row_read, period_read}
use Rattle.soundness.specs.Alike.{type_alike, rule_alike, row_alike, period_alike, typed_by, ruled_by}
use Rattle.soundness.specs.Buckets.{type_bucket, rule_bucket, row_bucket, period_bucket}
use Rattle.soundness.specs.Kind.{Kind}
use Rattle.soundness.specs.Kind as Kinds

-- where the places of a table are, and how many of them a depository may have
pub record Table : Type 0 where
  pub start : ℕ
  pub width : ℕ
  pub places : ℕ
  pub quota : ℕ

abbrev pub table_of : Kind → Table
table_of Kinds.Types = record {
  start = type_base;
  width = type_width;
  places = type_places;
  quota = type_quota;
}
table_of Kinds.Rules = record {
  start = rule_base;
  width = rule_width;
  places = rule_places;
  quota = rule_quota;
}
table_of Kinds.Rows = record { start = row_base; width = row_width; places = row_places; quota = row_quota }
table_of Kinds.Periods = record {
  start = period_base;
  width = period_width;
  places = period_places;
  quota = period_quota;
}

-- the address of place i
abbrev pub address_of : Kind → ℕ → ℕ
address_of kind i = (table_of kind).start + i * (table_of kind).width

-- ---- the record at an address

module _ (b : List ℕ) where
  -- whose it is: the first byte in every table, at offset 0 as the readings have it
  unfoldable pub csd_at : ℕ → ℕ
  csd_at at = byte_at b (at + 0)

  unfoldable pub free_at : Kind → ℕ → Bool
  free_at Kinds.Types at = type_zero (type_read b at)
  free_at Kinds.Rules at = rule_zero (rule_read b at)
  free_at Kinds.Rows at = row_zero (row_read b at)
  free_at Kinds.Periods at = period_zero (period_read b at)

  unfoldable pub bucket_at : Kind → ℕ → ℕ
  bucket_at Kinds.Types at = type_bucket (type_read b at)
  bucket_at Kinds.Rules at = rule_bucket (rule_read b at)
  bucket_at Kinds.Rows at = row_bucket (row_read b at)
  bucket_at Kinds.Periods at = period_bucket (period_read b at)

  -- whether it cannot stand beside the record at the other address
  unfoldable pub alike_at : Kind → ℕ → ℕ → Bool
  alike_at Kinds.Types at other = type_alike (type_read b at) (type_read b other)
  alike_at Kinds.Rules at other = rule_alike (rule_read b at) (rule_read b other)
  alike_at Kinds.Rows at other = row_alike (row_read b at) (row_read b other)
  alike_at Kinds.Periods at other = period_alike (period_read b at) (period_read b other)

  -- whether place j has the rule's type, or the row's rule, whose criteria it fills

  unfoldable pub typed_in : ℕ → ℕ → Bool
  typed_in at j = typed_by (rule_read b at) (type_read b (type_start j))

  unfoldable pub ruled_in : ℕ → ℕ → Bool
  ruled_in at j = ruled_by (row_read b at) (rule_read b (rule_start j))

  -- its range, and that it has its owner
  unfoldable pub fit_at : Kind → ℕ → Bool
  fit_at Kinds.Types at = type_fits (type_of (type_read b at))
  fit_at Kinds.Rules at = rule_fits (rule_of (rule_read b at)) && any_below (typed_in at) type_places
  fit_at Kinds.Rows at = row_fits (row_of (row_read b at)) && any_below (ruled_in at) rule_places
  fit_at Kinds.Periods at = period_fits (period_of (period_read b at))

  -- its bucket where it is so
  unfoldable pub lone_at : Kind → ℕ → Option ℕ
  lone_at kind at = cond (fit_at kind at) (Some (bucket_at kind at)) None

  -- ---- the record at place i

  unfoldable pub csd_of : Kind → ℕ → ℕ
  csd_of kind i = csd_at (address_of kind i)

  unfoldable pub free_of : Kind → ℕ → Bool
  free_of kind i = free_at kind (address_of kind i)

  unfoldable pub bucket_of : Kind → ℕ → ℕ
  bucket_of kind i = bucket_at kind (address_of kind i)

  unfoldable pub same_of : Kind → ℕ → ℕ → Bool
  same_of kind i j = alike_at kind (address_of kind i) (address_of kind j)

  unfoldable pub fit_of : Kind → ℕ → Bool
  fit_of kind i = fit_at kind (address_of kind i)

  unfoldable pub right_of : Kind → ℕ → Bool
  right_of kind = right (csd_of kind) (free_of kind) (fit_of kind) (same_of kind) (table_of kind).quota

  -- ---- chains

  -- the places of a kind below i
  abbrev pub ChainedOf : Kind → Seen → ℕ → Type 0
  ChainedOf kind = Chained (csd_of kind) (bucket_of kind)

-- the rules, each of them right, in chains
pub record RulesChained (b : List ℕ) (s : Seen) : Type 0 where
  pub right : all_below (right_of b Kinds.Rules) rule_places ≡ true
  pub chained : ChainedOf b Kinds.Rules s rule_places
