-- `passes::table` meets its contract. Assumes nothing.
use Rattle.passes.proofs.Passing.{keyed_of}
use Rattle.passes.proofs.table.Goals as goal

pub returns : goal.returns
returns g c = keyed_of _ g.row.N c.blank-t.ensures.long c.run.ensures
