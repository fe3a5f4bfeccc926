-- What chains need of the places of any kind. A new table adds a line to each.
use Rattle.std.proofs.Common.{◌≡◌, ℕ, ◌+◌, ◌*◌, ◌%◌, ◌<◌, ◌≤◌, true, List, refl, ap, ◌∙◌, arith}
use Rattle.records.proofs.Nobody.{type_nobody, rule_nobody, row_nobody, period_nobody}
use Rattle.tables.specs.Count.{every}
use Rattle.tables.proofs.Zeros.{numbers_zeros}
use Rattle.places.specs.Layout.{book_size, type_widths, type_from, rule_widths, rule_from, row_widths, row_from, period_widths, period_from}
use Rattle.records.specs.Free.{all_zero, type_zero, rule_zero, row_zero, period_zero}
use Rattle.chains.specs.Sizes.{buckets, most_places, block_places}
use Rattle.chains.specs.Blocks.{zero_from, Wide}
use Rattle.chains.proofs.Blocking.{zero_numbers}
use Rattle.soundness.specs.Reads.{type_read, rule_read, row_read, period_read}
use Rattle.soundness.specs.Kinds.{table_of, address_of, csd_at, free_at, bucket_at, alike_at, fit_at}
use Rattle.soundness.specs.Kind.{Kind}
use Rattle.soundness.specs.Kind as Kinds
use Rattle.soundness.proofs.Records.{
  type_only,
  type_back,
  type_self,
  type_inside,
  rule_only,
  rule_back,
  rule_self,
  rule_inside,
  row_only,
  row_back,
  row_self,
  row_inside,
  period_only,
  period_back,
  period_self,
  period_inside,
}

pub kind_few : (kind : Kind) → (table_of kind).places ≤ most_places
kind_few Kinds.Types = omega arith
kind_few Kinds.Rules = omega arith
kind_few Kinds.Rows = omega arith
kind_few Kinds.Periods = omega arith

pub kind_wide : (kind : Kind) → Wide (table_of kind).width
kind_wide Kinds.Types = record { least = omega arith; most = omega arith }
kind_wide Kinds.Rules = record { least = omega arith; most = omega arith }
kind_wide Kinds.Rows = record { least = omega arith; most = omega arith }
kind_wide Kinds.Periods = record { least = omega arith; most = omega arith }

-- Blocks of places fill the table, and each ends within the book.

pub kind_blocks : (kind : Kind) (i : ℕ) → i < (table_of kind).places → i % block_places ≡ 0
    → i + block_places ≤ (table_of kind).places
kind_blocks Kinds.Types i l e = omega arith
kind_blocks Kinds.Rules i l e = omega arith
kind_blocks Kinds.Rows i l e = omega arith
kind_blocks Kinds.Periods i l e = omega arith

-- A table has only whole blocks.
pub kind_whole : (kind : Kind) → (table_of kind).places % block_places ≡ 0
kind_whole Kinds.Types = refl
kind_whole Kinds.Rules = refl
kind_whole Kinds.Rows = refl
kind_whole Kinds.Periods = refl

pub kind_block : (kind : Kind) (i : ℕ) → i + block_places ≤ (table_of kind).places
    → address_of kind i + block_places * (table_of kind).width ≤ book_size
kind_block Kinds.Types i l = omega arith
kind_block Kinds.Rules i l = omega arith
kind_block Kinds.Rows i l = omega arith
kind_block Kinds.Periods i l = omega arith

pub kind_among : (kind : Kind) (i k n : ℕ) → i ≤ k → k < i + n
    → (address_of kind i ≤ address_of kind k) × (address_of kind k + (table_of kind).width ≤ address_of kind i + n * (table_of kind).width)
kind_among Kinds.Types i k n l h = (omega arith, omega arith)
kind_among Kinds.Rules i k n l h = (omega arith, omega arith)
kind_among Kinds.Rows i k n l h = (omega arith, omega arith)
kind_among Kinds.Periods i k n l h = (omega arith, omega arith)

-- A place ends within the book.
pub kind_within : (kind : Kind) (i : ℕ) → i < (table_of kind).places → address_of kind i + (table_of kind).width ≤ book_size
kind_within Kinds.Types i l = omega arith
kind_within Kinds.Rules i l = omega arith
kind_within Kinds.Rows i l = omega arith
kind_within Kinds.Periods i l = omega arith

module _ (b : List ℕ) where
  pub kind_nobody : (kind : Kind) (at : ℕ) → free_at b kind at ≡ true → csd_at b at ≡ 0
  unfolding csd_at free_at type_read rule_read row_read period_read
  kind_nobody Kinds.Types at e = type_nobody (type_read b at) e
  kind_nobody Kinds.Rules at e = rule_nobody (rule_read b at) e
  kind_nobody Kinds.Rows at e = row_nobody (row_read b at) e
  kind_nobody Kinds.Periods at e = period_nobody (period_read b at) e

  pub kind_inside : (kind : Kind) (at : ℕ) → bucket_at b kind at < buckets
  unfolding bucket_at
  kind_inside Kinds.Types at = type_inside (type_read b at)
  kind_inside Kinds.Rules at = rule_inside (rule_read b at)
  kind_inside Kinds.Rows at = row_inside (row_read b at)
  kind_inside Kinds.Periods at = period_inside (period_read b at)

  pub kind_only : (kind : Kind) (at other : ℕ) → alike_at b kind at other ≡ true
      → (csd_at b other ≡ csd_at b at) × (bucket_at b kind other ≡ bucket_at b kind at)
  unfolding csd_at bucket_at alike_at type_read rule_read row_read period_read
  kind_only Kinds.Types at other e = type_only (type_read b at) (type_read b other) e
  kind_only Kinds.Rules at other e = rule_only (rule_read b at) (rule_read b other) e
  kind_only Kinds.Rows at other e = row_only (row_read b at) (row_read b other) e
  kind_only Kinds.Periods at other e = period_only (period_read b at) (period_read b other) e

  pub kind_back : (kind : Kind) (at other : ℕ) → alike_at b kind at other ≡ true → alike_at b kind other at ≡ true
  unfolding alike_at
  kind_back Kinds.Types at other e = type_back (type_read b at) (type_read b other) e
  kind_back Kinds.Rules at other e = rule_back (rule_read b at) (rule_read b other) e
  kind_back Kinds.Rows at other e = row_back (row_read b at) (row_read b other) e
  kind_back Kinds.Periods at other e = period_back (period_read b at) (period_read b other) e

  pub kind_self : (kind : Kind) (at : ℕ) → fit_at b kind at ≡ true → alike_at b kind at at ≡ true
  unfolding alike_at fit_at
  kind_self Kinds.Types at e = type_self (type_read b at)
  kind_self Kinds.Rules at e = rule_self (rule_read b at)
  kind_self Kinds.Rows at e = row_self (row_read b at)
  kind_self Kinds.Periods at e = period_self (period_read b at) e

  -- A place whose bytes are all 0 is free.
  pub kind_zero : (kind : Kind) (from n at : ℕ) → zero_from b from n ≡ true → from ≤ at
      → at + (table_of kind).width ≤ from + n → free_at b kind at ≡ true
  unfolding free_at type_read rule_read row_read period_read type_zero rule_zero row_zero period_zero all_zero every
  kind_zero Kinds.Types from n at z l h =
      ap (λ v. type_zero (type_from v)) (zero_numbers type_widths b from n at z l h ∙ numbers_zeros type_widths 0 at 0)
  kind_zero Kinds.Rules from n at z l h =
      ap (λ v. rule_zero (rule_from v)) (zero_numbers rule_widths b from n at z l h ∙ numbers_zeros rule_widths 0 at 0)
  kind_zero Kinds.Rows from n at z l h =
      ap (λ v. row_zero (row_from v)) (zero_numbers row_widths b from n at z l h ∙ numbers_zeros row_widths 0 at 0)
  kind_zero Kinds.Periods from n at z l h =
      ap (λ v. period_zero (period_from v)) (zero_numbers period_widths b from n at z l h ∙ numbers_zeros period_widths 0 at 0)
