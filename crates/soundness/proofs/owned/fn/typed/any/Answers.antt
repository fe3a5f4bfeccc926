-- `soundness::owned::fn::typed::any` meets its contract. Assumes nothing.
use Rattle.soundness.proofs.Walks.{typed_here}
use Rattle.soundness.proofs.owned.fn.typed.any.Goals as goal

pub returns : goal.returns
returns c = search typed_here
