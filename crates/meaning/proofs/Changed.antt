-- A book with a list changed: the facts of the others stay as they are. A lemma for each list, and one for the two that
-- O changes together.
use Rattle.std.proofs.Common.{List}
use Rattle.meaning.specs.Records.{TypeRecord, Rule, Row, Period, Book}
use Rattle.meaning.specs.Edits.{with_types, with_rules, with_rows, with_periods}
use Rattle.meaning.proofs.Listed.{Listed}
use Rattle.meaning.proofs.Good.{type_kind, rule_kind, row_kind, period_kind, Typed, Ruled, Lists}

module _ (b : Book) (g : Lists b) where
  pub types_changed : {ts : List TypeRecord} → Listed type_kind ts → Typed ts b.rules → Lists (with_types ts b)
  types_changed l t = search

  pub rules_rows_changed : {rs : List Rule} {ws : List Row} → Listed rule_kind rs → Listed row_kind ws
      → Typed b.types rs → Ruled rs ws → Lists (with_rows ws (with_rules rs b))
  rules_rows_changed l m t r = search

  pub rules_changed : {rs : List Rule} → Listed rule_kind rs → Typed b.types rs → Ruled rs b.rows
      → Lists (with_rules rs b)
  rules_changed l t r = search

  pub rows_changed : {ws : List Row} → Listed row_kind ws → Ruled b.rules ws → Lists (with_rows ws b)
  rows_changed l r = search

  pub periods_changed : {ps : List Period} → Listed period_kind ps → Lists (with_periods ps b)
  periods_changed l = search
