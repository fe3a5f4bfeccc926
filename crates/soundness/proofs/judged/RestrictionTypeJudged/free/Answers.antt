-- `soundness::judged::RestrictionTypeJudged::free` meets its contract. Assumes nothing.
use Rattle.soundness.proofs.FreeWords.{type_free}
use Rattle.soundness.proofs.judged.RestrictionTypeJudged.free.Goals as goal

pub returns : goal.returns
returns c = search type_free
