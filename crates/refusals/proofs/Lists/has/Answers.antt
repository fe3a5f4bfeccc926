-- `refusals::Lists::has` meets its contract. Assumes nothing.
use mathlib.Core.Path.{ap}
use lib.Dec.{ltb}
use Rattle.tables.specs.Count.{has}
use Rattle.refusals.proofs.Lists.has.Goals as goal

pub returns : goal.returns
unfolding has
returns g c = ap (ltb 0) c.count.ensures.0
