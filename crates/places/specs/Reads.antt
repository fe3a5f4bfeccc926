-- What stands at a place of each table: the record of the numbers that start at its address.
-- Written by tools/places.py: change that, then run tools/generate.
use Rattle.std.specs.Prelude.{ℕ, ◌+◌, ◌*◌, List, ◌≡◌, refl}
use Rattle.tables.specs.Bytes.{numbers}
use Rattle.places.specs.Layout.{type_base, type_width, type_widths, type_from, type_at}
use Rattle.places.specs.Layout.{rule_base, rule_width, rule_widths, rule_from, rule_at}
use Rattle.places.specs.Layout.{row_base, row_width, row_widths, row_from, row_at}
use Rattle.places.specs.Layout.{period_base, period_width, period_widths, period_from, period_at}
use Rattle.places.specs.Layout.{instruction_base, instruction_width, instruction_widths, instruction_from, instruction_at}

pub type_reads : (b : List ℕ) (i : ℕ) → type_at b i ≡ type_from (numbers type_widths b (type_base + i * type_width) 0)
unfolding type_at
type_reads b i = refl

pub rule_reads : (b : List ℕ) (i : ℕ) → rule_at b i ≡ rule_from (numbers rule_widths b (rule_base + i * rule_width) 0)
unfolding rule_at
rule_reads b i = refl

pub row_reads : (b : List ℕ) (i : ℕ) → row_at b i ≡ row_from (numbers row_widths b (row_base + i * row_width) 0)
unfolding row_at
row_reads b i = refl

pub period_reads : (b : List ℕ) (i : ℕ)
    → period_at b i ≡ period_from (numbers period_widths b (period_base + i * period_width) 0)
unfolding period_at
period_reads b i = refl

pub instruction_reads : (b : List ℕ) (i : ℕ)
    → instruction_at b i ≡ instruction_from (numbers instruction_widths b (instruction_base + i * instruction_width) 0)
unfolding instruction_at
instruction_reads b i = refl
