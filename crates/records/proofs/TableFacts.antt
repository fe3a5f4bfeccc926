-- The tables' own facts: each is read and stored by its widths, a free place is nobody's, the tables stand one after
-- the other in the book, and the quotas have room.
-- Written by tools/values.py: change that, then run tools/generate.
use Prim.Native.Nat.{ℕ, zero, suc, ◌+◌, ◌*◌, ◌≤◌, ◌<◌}
use mathlib.Core.Path.{◌≡◌, refl}
use mathlib.Core.Bool.{Bool, true}
use native.Mathlib.Omega.{arith}
use lib.ListN.{length, get_or}
use Rattle.tables.specs.Count.{every}
use Rattle.tables.specs.Table.{end, start_of, Lies}
use Rattle.tables.proofs.Counts.{ands}
use Rattle.places.specs.Layout.{book_size, type_at, put_type, rule_at, put_rule, row_at, put_row, period_at, put_period}
use Rattle.records.specs.Free.{all_zero, type_zero, rule_zero, row_zero, period_zero}
use Rattle.records.specs.Tables.{TableName, of_types, of_rules, of_rows, of_periods, table, rank, sizes, every_table}
use Rattle.records.proofs.Nobody.{type_nobody, rule_nobody, row_nobody, period_nobody}

pub lies : (k : TableName) → Lies (table k)
unfolding type_at put_type type_zero rule_at put_rule rule_zero row_at put_row row_zero period_at put_period period_zero all_zero every
lies of_types = record { reads = λ b i. refl; stores = λ b i r. refl; nobody = type_nobody; blank = refl; empty = refl }
lies of_rules = record { reads = λ b i. refl; stores = λ b i r. refl; nobody = rule_nobody; blank = refl; empty = refl }
lies of_rows = record { reads = λ b i. refl; stores = λ b i r. refl; nobody = row_nobody; blank = refl; empty = refl }
lies of_periods = record { reads = λ b i. refl; stores = λ b i r. refl; nobody = period_nobody; blank = refl; empty = refl }

pub record InOrder (k : TableName) : Type 0 where
  pub known : rank k < length sizes
  pub starts : (table k).start ≡ start_of sizes (rank k)
  pub ends : end (table k) ≡ start_of sizes (rank k) + get_or sizes (rank k) 0

pub in_order : (k : TableName) → InOrder k
unfolding start_of
in_order of_types = record { known = omega arith; starts = refl; ends = refl }
in_order of_rules = record { known = omega arith; starts = refl; ends = refl }
in_order of_rows = record { known = omega arith; starts = refl; ends = refl }
in_order of_periods = record { known = omega arith; starts = refl; ends = refl }

pub whole_book : start_of sizes (length sizes) ≡ book_size
unfolding start_of
whole_book = refl

-- eight depositories' quotas have room
pub room : (k : TableName) → 8 * (table k).quota ≤ (table k).places
room of_types = omega arith
room of_rules = omega arith
room of_rows = omega arith
room of_periods = omega arith

-- ---- a test of every table

pub every_table_lem : (p : TableName → Bool) → every_table p ≡ true → (k : TableName) → p k ≡ true
every_table_lem p e of_types = search ands
every_table_lem p e of_rules = search ands
every_table_lem p e of_rows = search ands
every_table_lem p e of_periods = search ands

pub table_every : (p : TableName → Bool) → ((k : TableName) → p k ≡ true) → every_table p ≡ true
table_every p h = rw (h of_types, h of_rules, h of_rows, h of_periods)

-- ---- the table of a rank

pub named : ℕ → TableName
named zero = of_types
named (suc zero) = of_rules
named (suc (suc zero)) = of_rows
named (suc (suc (suc n))) = of_periods

pub named_rank : (k : TableName) → named (rank k) ≡ k
unfolding named
named_rank of_types = refl
named_rank of_rules = refl
named_rank of_rows = refl
named_rank of_periods = refl
