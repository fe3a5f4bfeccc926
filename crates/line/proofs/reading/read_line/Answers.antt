-- `line::reading::read_line` meets its contract.
use mathlib.Core.Path.{sym, ◌∙◌}
use Rattle.line.proofs.Readings.{ill_made, well_made_lem}
use Rattle.line.proofs.reading.read_line.Goals as goal

pub returns-then-not-well_made : goal.returns-then-not-well_made
returns-then-not-well_made c = ill_made c.args.line.now (sym c.well_made.ensures ∙ c.if-not-well_made.true)

pub returns : goal.returns
returns c = well_made_lem c.args.line.now (sym c.well_made.ensures ∙ c.if-not-well_made.false) c.by_fields.ensures
