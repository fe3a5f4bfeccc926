-- Which place of a table is the last that holds a record of a depository as asked; the number of places where there is
-- none. A free place is depository 0's. Assumes nothing.
use Rattle.std.specs.Prelude.{ℕ, List}
use Rattle.tables.specs.Table.{place_of}
use Rattle.records.specs.Tables.{of_types, of_rules, of_rows, of_periods, table}
use Rattle.records.specs.Asks.{type_meets, rule_meets, row_meets, period_meets}
use Rattle.records.specs.declared.TypeAsk.{TypeAsk}
use Rattle.records.specs.declared.RuleAsk.{RuleAsk}
use Rattle.records.specs.declared.RowAsk.{RowAsk}
use Rattle.records.specs.declared.PeriodAsk.{PeriodAsk}

unfoldable pub type_place : List ℕ → ℕ → TypeAsk → ℕ
type_place b a q = place_of (table of_types) b a (type_meets q)

unfoldable pub rule_place : List ℕ → ℕ → RuleAsk → ℕ
rule_place b a q = place_of (table of_rules) b a (rule_meets q)

unfoldable pub row_place : List ℕ → ℕ → RowAsk → ℕ
row_place b a q = place_of (table of_rows) b a (row_meets q)

unfoldable pub period_place : List ℕ → ℕ → PeriodAsk → ℕ
period_place b a q = place_of (table of_periods) b a (period_meets q)
