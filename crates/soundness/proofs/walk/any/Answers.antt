-- `soundness::walk::any` meets its contract. Assumes nothing.
use Rattle.chains.proofs.Walks.{walked_start, walked_less, walked_on, walked_found, walked_end}
use Rattle.soundness.proofs.walk.any.Goals as goal

pub loop-j-init : goal.loop-j-init
loop-j-init g c = search walked_start

pub returns-then-asked : goal.returns-then-asked
returns-then-asked g c = search walked_found

pub loop-j-smaller : goal.loop-j-smaller
loop-j-smaller g c = search walked_less

pub loop-j-preserved : goal.loop-j-preserved
loop-j-preserved g c = search walked_on

pub returns : goal.returns
returns g c = search walked_end
