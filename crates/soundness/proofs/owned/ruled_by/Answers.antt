-- `soundness::owned::ruled_by` meets its contract. Assumes nothing.
use Rattle.soundness.proofs.SameWords.{not_ruled, ruled_by_lem}
use Rattle.soundness.proofs.owned.ruled_by.Goals as goal

pub returns-then-four : goal.returns-then-four
returns-then-four c = search not_ruled

pub returns : goal.returns
returns c = search ruled_by_lem
