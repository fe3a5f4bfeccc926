-- `line::reading::well_made` meets its contract.
use Rattle.line.proofs.Readings.{good_length, bad_length}
use Rattle.line.proofs.reading.well_made.Goals as goal

pub returns-then-is_length : goal.returns-then-is_length
returns-then-is_length c = good_length c.args.line.now c.is_length.ensures c.if-is_length.true c.all_allowed.ensures

pub returns-else-is_length : goal.returns-else-is_length
returns-else-is_length c = bad_length c.args.line.now c.is_length.ensures c.if-is_length.false
