-- `soundness::owned::typed_by` meets its contract. Assumes nothing.
use Rattle.soundness.proofs.SameWords.{typed_by_lem}
use Rattle.soundness.proofs.owned.typed_by.Goals as goal

pub returns : goal.returns
returns c = search typed_by_lem
