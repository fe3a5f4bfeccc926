-- `soundness::owned::fn::ruled::any` meets its contract. Assumes nothing.
use Rattle.soundness.proofs.Walks.{ruled_here}
use Rattle.soundness.proofs.owned.fn.ruled.any.Goals as goal

pub returns : goal.returns
returns c = search ruled_here
