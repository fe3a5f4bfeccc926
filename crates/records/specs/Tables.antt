-- The book's tables, each a value (`tables/specs/Table`), and their names. Assumes nothing.
-- Written by tools/values.py: change that, then run tools/generate.
use Rattle.std.specs.Prelude.{ℕ, ◌*◌, Bool, ◌&&◌, List, [], ◌∷◌}
use Rattle.tables.specs.Table.{Table}
use Rattle.meaning.specs.Records as M
use Rattle.places.specs.Layout.{type_places, type_base, type_width, type_widths, type_numbers, type_from, type_at, put_type}
use Rattle.places.specs.Layout.{rule_places, rule_base, rule_width, rule_widths, rule_numbers, rule_from, rule_at, put_rule}
use Rattle.places.specs.Layout.{row_places, row_base, row_width, row_widths, row_numbers, row_from, row_at, put_row}
use Rattle.places.specs.Layout.{period_places, period_base, period_width, period_widths, period_numbers, period_from, period_at, put_period}
use Rattle.places.specs.declared.RestrictionType.{RestrictionType}
use Rattle.places.specs.declared.Rule.{Rule}
use Rattle.places.specs.declared.Row.{Row}
use Rattle.places.specs.declared.Period.{Period}
use Rattle.places.specs.Layout.{instruction_places, instruction_base, instruction_widths, instruction_numbers, instruction_from, instruction_at, put_instruction}
use Rattle.places.specs.declared.Kept.{Kept}
use Rattle.records.specs.Said.{type_of, rule_of, row_of, period_of, instruction_of}
use Rattle.records.specs.Free.{all_zero, type_zero, rule_zero, row_zero, period_zero}

pub data TableName : Type 0 where
  of_types of_rules of_rows of_periods : TableName

-- the struct of a place, and the meaning's record

abbrev pub Place : TableName → Type 0
Place of_types = RestrictionType
Place of_rules = Rule
Place of_rows = Row
Place of_periods = Period

abbrev pub Said : TableName → Type 0
Said of_types = M.TypeRecord
Said of_rules = M.Rule
Said of_rows = M.Row
Said of_periods = M.Period

abbrev pub table : (k : TableName) → Table (Place k) (Said k)
table of_types = record {
  start = type_base;
  places = type_places;
  quota = M.type_quota;
  widths = type_widths;
  shown = type_numbers;
  from = type_from;
  at = type_at;
  put = put_type;
  csd = λ r. r.csd;
  free = type_zero;
  rec = type_of;
}
table of_rules = record {
  start = rule_base;
  places = rule_places;
  quota = M.rule_quota;
  widths = rule_widths;
  shown = rule_numbers;
  from = rule_from;
  at = rule_at;
  put = put_rule;
  csd = λ r. r.csd;
  free = rule_zero;
  rec = rule_of;
}
table of_rows = record {
  start = row_base;
  places = row_places;
  quota = M.row_quota;
  widths = row_widths;
  shown = row_numbers;
  from = row_from;
  at = row_at;
  put = put_row;
  csd = λ r. r.csd;
  free = row_zero;
  rec = row_of;
}
table of_periods = record {
  start = period_base;
  places = period_places;
  quota = M.period_quota;
  widths = period_widths;
  shown = period_numbers;
  from = period_from;
  at = period_at;
  put = put_period;
  csd = λ r. r.csd;
  free = period_zero;
  rec = period_of;
}

-- the kept instructions, which stand behind the book (docs/LAYOUT.md)
abbrev pub kept : Table Kept M.Kept
kept = record {
  start = instruction_base;
  places = instruction_places;
  quota = M.instruction_quota;
  widths = instruction_widths;
  shown = instruction_numbers;
  from = instruction_from;
  at = instruction_at;
  put = put_instruction;
  csd = λ r. r.csd;
  free = λ r. all_zero (instruction_numbers r);
  rec = instruction_of;
}

-- ---- the tables' order in the book

abbrev pub rank : TableName → ℕ
rank of_types = 0
rank of_rules = 1
rank of_rows = 2
rank of_periods = 3

-- the bytes of each
abbrev pub sizes : List ℕ
sizes = type_places * type_width ∷ rule_places * rule_width ∷ row_places * row_width ∷ period_places * period_width ∷ []

-- whether every table passes the test
abbrev pub every_table : (TableName → Bool) → Bool
every_table p = (p of_types && p of_rules) && (p of_rows && p of_periods)
