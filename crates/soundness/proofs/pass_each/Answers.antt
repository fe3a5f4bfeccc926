-- `soundness::pass_each` meets its contract. Assumes nothing.
use Rattle.std.proofs.Common.{arith}
use Rattle.soundness.proofs.Passes.{block_on, block_failed}
use Rattle.soundness.proofs.pass_each.Goals as goal

pub returns-then-not-pass : goal.returns-then-not-pass
returns-then-not-pass g c = search block_failed

pub loop-i-preserved : goal.loop-i-preserved
loop-i-preserved g c = (omega arith, search block_on)
