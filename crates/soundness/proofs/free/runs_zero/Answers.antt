-- `soundness::free::runs_zero` meets its contract. Assumes nothing.
use Rattle.std.proofs.Common.{arith, rules}
use Rattle.soundness.proofs.FreeWords.{runs_none, runs_more, runs_end}
use Rattle.soundness.proofs.free.runs_zero.Goals as goal

pub loop-j-init : goal.loop-j-init
loop-j-init c = (search rules, runs_none _ _ _ _ _)

pub loop-j-preserved : goal.loop-j-preserved
loop-j-preserved c = (omega arith, search runs_more)

pub returns : goal.returns
returns c =
    runs_end _ _ _ _ _ _ c.loop-j.x _ c.loop-j.invariant.1 (omega arith) (omega arith) (omega arith) (omega arith)
