-- `soundness::free::count_free` meets its contract. Assumes nothing.
use Rattle.std.proofs.Common.{arith}
use Rattle.soundness.proofs.FreeWords.{first_none, first_few, first_more}
use Rattle.soundness.proofs.free.count_free.Goals as goal

pub loop-n-init : goal.loop-n-init
loop-n-init c = (omega arith, search first_none, omega arith)

pub loop-n-preserved : goal.loop-n-preserved
loop-n-preserved c = (omega arith, search first_more, search first_few)
