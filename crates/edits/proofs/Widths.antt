-- A record that an edit changes where it stands fits its place; a row in range has ten values.
use Prim.Native.Nat.{ℕ, ◌≤◌}
use mathlib.Core.Path.{◌≡◌, refl}
use mathlib.Core.Bool.{true}
use native.Mathlib.Omega.{arith}
use lib.ListN.{length}
use Rattle.tables.specs.Table.{Fits}
use Rattle.tables.proofs.Counts.{ands}
use Rattle.meaning.specs.Forms.{holds, day, sequence_form, ten_values}
use Rattle.meaning.specs.Records as M
use Rattle.meaning.specs.Sound.{type_fits, rule_fits, row_fits, period_fits}
use Rattle.meaning.proofs.Ranges.{holds_length}
use Rattle.places.specs.declared.RestrictionType.{RestrictionType}
use Rattle.places.specs.declared.Rule.{Rule}
use Rattle.places.specs.declared.Row.{Row}
use Rattle.places.specs.declared.Period.{Period}
use Rattle.records.specs.Said.{type_of, rule_of, row_of, period_of}
use Rattle.records.specs.Tables.{of_types, of_rules, of_rows, of_periods, table}
use Rattle.records.proofs.Tables.{row_whole}
use Rattle.records.proofs.Holds.{most, day_most, type_hold, rule_hold, row_hold, period_hold}
use Rattle.edits.specs.Moves.{rule_with, row_with}
use Rattle.edits.specs.Edit.{type_ended, period_ended}

pub row_ten : (w : M.Row) → row_fits w ≡ true → length w.values ≡ 10
unfolding row_fits
row_ten w e = holds_length ten_values w.values (search ands)

pub type_ended_fits : (d : ℕ) (r : RestrictionType) → r.csd ≤ 8 → type_fits (type_of r) ≡ true → holds day d ≡ true
    → Fits (table of_types) (type_ended d r)
unfolding holds
type_ended_fits d r l f e =
    let h = type_hold r l f in
    record {
      holds = (h.0, (h.1.0, (h.1.1.0, (h.1.1.1.0, (h.1.1.1.1.0, (omega (arith, day_most d e), tt))))));
      whole = refl;
    }

pub period_ended_fits : (d : ℕ) (r : Period) → r.csd ≤ 8 → period_fits (period_of r) ≡ true → holds day d ≡ true
    → Fits (table of_periods) (period_ended d r)
unfolding holds
period_ended_fits d r l f e =
    let h = period_hold r l f in
    record {
      holds = (h.0, (h.1.0, (h.1.1.0, (h.1.1.1.0, (h.1.1.1.1.0, (omega (arith, day_most d e), tt))))));
      whole = refl;
    }

pub rule_with_fits : (new : ℕ) (r : Rule) → r.csd ≤ 8 → rule_fits (rule_of r) ≡ true → holds sequence_form new ≡ true
    → Fits (table of_rules) (rule_with new r)
unfolding holds
rule_with_fits new r l f e =
    let h = rule_hold r l f in
    record { holds = (h.0, (h.1.0, (h.1.1.0, (omega (arith, most 99 new e), h.1.1.1.1)))); whole = refl }

pub row_with_fits : (new : ℕ) (r : Row) → r.csd ≤ 8 → length r.values ≡ 10 → row_fits (row_of r) ≡ true
    → holds sequence_form new ≡ true → Fits (table of_rows) (row_with new r)
unfolding holds
row_with_fits new r l v f e =
    let h = row_hold r l v f in
    record { holds = (h.0, (h.1.0, (h.1.1.0, (omega (arith, most 99 new e), h.1.1.1.1)))); whole = row_whole (row_with new r) v }
