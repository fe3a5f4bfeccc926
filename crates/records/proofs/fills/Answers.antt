-- `records::fills` meets its contract. Assumes nothing.
use Rattle.records.proofs.Filled.{fills_none, fills_all}
use Rattle.records.proofs.fills.Goals as goal

pub returns-then-criteria-filled_count : goal.returns-then-criteria-filled_count
returns-then-criteria-filled_count c = search fills_none

pub returns : goal.returns
returns c = search fills_all
