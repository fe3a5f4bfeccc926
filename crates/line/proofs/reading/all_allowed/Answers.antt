-- `line::reading::all_allowed` meets its contract.
use Rattle.line.proofs.Loops.{every_next, every_end}
use Rattle.line.proofs.reading.all_allowed.Goals as goal

pub loop-c-preserved : goal.loop-c-preserved
loop-c-preserved c = search every_next

pub returns : goal.returns
returns c = search every_end
