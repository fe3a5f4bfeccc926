-- The lone book of a depository: what the places that are its say, as the written meaning's lists. Assumes nothing.
use Rattle.std.specs.Prelude.{ℕ, List}
use Rattle.tables.specs.Table.{list_of}
use Rattle.meaning.specs.Records as M
use Rattle.records.specs.Tables.{TableName, of_types, of_rules, of_rows, of_periods, Said, table}

unfoldable pub types_of : ℕ → List ℕ → List M.TypeRecord
types_of a b = list_of (table of_types) a b

unfoldable pub rules_of : ℕ → List ℕ → List M.Rule
rules_of a b = list_of (table of_rules) a b

unfoldable pub rows_of : ℕ → List ℕ → List M.Row
rows_of a b = list_of (table of_rows) a b

unfoldable pub periods_of : ℕ → List ℕ → List M.Period
periods_of a b = list_of (table of_periods) a b

abbrev pub lone_book : ℕ → List ℕ → M.Book
lone_book a b = record { types = types_of a b; rules = rules_of a b; rows = rows_of a b; periods = periods_of a b }

-- a book's list of the records of a table
abbrev pub list : (k : TableName) → M.Book → List (Said k)
list of_types m = m.types
list of_rules m = m.rules
list of_rows m = m.rows
list of_periods m = m.periods
