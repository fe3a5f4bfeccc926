-- What is asked of the records of a table: a case for each test. Assumes nothing.
use Rattle.std.specs.Prelude.{◌≡◌, refl, Bool, true}
use Rattle.meaning.specs.Records as M
use Rattle.meaning.specs.Keys.{is_type, is_rule, of_rule, is_row, is_period, is_kept, clash}
use Rattle.meaning.specs.Refusals.{type_outside, period_outside, other_criteria}
use Rattle.meaning.specs.Pending.{held_by}
use Rattle.meaning.specs.Sound.{fills_rule}
use Rattle.records.specs.Said.{row_of, period_of}
use Rattle.records.specs.declared.TypeAsk.{TypeAsk}
use Rattle.records.specs.declared.TypeAsk.TheVariants as Types
use Rattle.records.specs.declared.RuleAsk.{RuleAsk}
use Rattle.records.specs.declared.RuleAsk.TheVariants as Rules
use Rattle.records.specs.declared.RowAsk.{RowAsk}
use Rattle.records.specs.declared.RowAsk.TheVariants as Rows
use Rattle.records.specs.declared.PeriodAsk.{PeriodAsk}
use Rattle.records.specs.declared.PeriodAsk.TheVariants as Periods
use Rattle.records.specs.declared.InstructionAsk.{InstructionAsk}
use Rattle.records.specs.declared.InstructionAsk.TheVariants as Instructions

unfoldable pub type_meets : TypeAsk → M.TypeRecord → Bool
type_meets Types.Any t = true
type_meets (Types.Named k) t = is_type k.number k.object t
type_meets (Types.Outside k day) t = type_outside k.number k.object day t

-- Fills and Other ask for the rule of a row
unfoldable pub rule_meets : RuleAsk → M.Rule → Bool
rule_meets Rules.Any r = true
rule_meets (Rules.Named k) r = is_rule k.number k.object k.sequence r
rule_meets (Rules.Fills w) r = fills_rule (row_of w) r
rule_meets (Rules.Other w) r = other_criteria (row_of w) r

-- the row itself, or the rows of a rule
unfoldable pub row_meets : RowAsk → M.Row → Bool
row_meets Rows.Any w = true
row_meets (Rows.Same a) w = is_row (row_of a) w
row_meets (Rows.OfRule k) w = of_rule k.number k.object k.sequence w

unfoldable pub period_meets : PeriodAsk → M.Period → Bool
period_meets Periods.Any p = true
period_meets (Periods.Clash a) p = clash (period_of a) p
period_meets (Periods.Named k) p = is_period k.kind k.number k.code k.first p
period_meets (Periods.Outside k day) p = period_outside k.kind k.number k.code k.first day p

unfoldable pub instruction_meets : InstructionAsk → M.Kept → Bool
instruction_meets Instructions.Any k = true
instruction_meets (Instructions.Named reference) k = is_kept reference k
instruction_meets (Instructions.Held reference hold) k = held_by reference hold k

-- ---- every record is what any is

pub type_all : (x : M.TypeRecord) → type_meets Types.Any x ≡ true
unfolding type_meets
type_all x = refl

pub rule_all : (x : M.Rule) → rule_meets Rules.Any x ≡ true
unfolding rule_meets
rule_all x = refl

pub row_all : (x : M.Row) → row_meets Rows.Any x ≡ true
unfolding row_meets
row_all x = refl

pub period_all : (x : M.Period) → period_meets Periods.Any x ≡ true
unfolding period_meets
period_all x = refl

pub instruction_all : (x : M.Kept) → instruction_meets Instructions.Any x ≡ true
unfolding instruction_meets
instruction_all x = refl
