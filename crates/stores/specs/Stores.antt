-- What a record stored at a place of each table leaves: its numbers from the place's address on.
-- Written by tools/places.py: change that, then run tools/generate.
use Rattle.std.specs.Prelude.{ℕ, ◌+◌, ◌*◌, List, ◌≡◌, refl}
use Rattle.tables.specs.Bytes.{bytes_of, puts}
use Rattle.places.specs.declared.RestrictionType.{RestrictionType}
use Rattle.places.specs.Layout.{type_base, type_width, type_widths, type_numbers, put_type}
use Rattle.places.specs.declared.Rule.{Rule}
use Rattle.places.specs.Layout.{rule_base, rule_width, rule_widths, rule_numbers, put_rule}
use Rattle.places.specs.declared.Row.{Row}
use Rattle.places.specs.Layout.{row_base, row_width, row_widths, row_numbers, put_row}
use Rattle.places.specs.declared.Period.{Period}
use Rattle.places.specs.Layout.{period_base, period_width, period_widths, period_numbers, put_period}
use Rattle.places.specs.declared.Kept.{Kept}
use Rattle.places.specs.Layout.{instruction_base, instruction_width, instruction_widths, instruction_numbers, put_instruction}

pub type_stores : (b : List ℕ) (i : ℕ) (r : RestrictionType)
    → put_type b i r
    ≡ puts b (type_base + i * type_width) 0 (bytes_of type_widths (type_numbers r))
unfolding put_type
type_stores b i r = refl

pub rule_stores : (b : List ℕ) (i : ℕ) (r : Rule)
    → put_rule b i r
    ≡ puts b (rule_base + i * rule_width) 0 (bytes_of rule_widths (rule_numbers r))
unfolding put_rule
rule_stores b i r = refl

pub row_stores : (b : List ℕ) (i : ℕ) (r : Row)
    → put_row b i r
    ≡ puts b (row_base + i * row_width) 0 (bytes_of row_widths (row_numbers r))
unfolding put_row
row_stores b i r = refl

pub period_stores : (b : List ℕ) (i : ℕ) (r : Period)
    → put_period b i r
    ≡ puts b (period_base + i * period_width) 0 (bytes_of period_widths (period_numbers r))
unfolding put_period
period_stores b i r = refl

pub instruction_stores : (b : List ℕ) (i : ℕ) (r : Kept)
    → put_instruction b i r
    ≡ puts b (instruction_base + i * instruction_width) 0 (bytes_of instruction_widths (instruction_numbers r))
unfolding put_instruction
instruction_stores b i r = refl
