-- `soundness::all` meets its contract. Assumes nothing.
use Rattle.std.proofs.Common.{arith}
use Rattle.soundness.proofs.Passes.{all_start}
use Rattle.soundness.proofs.all.Goals as goal

pub loop-block-init : goal.loop-block-init
loop-block-init g c = (omega arith, search all_start)
