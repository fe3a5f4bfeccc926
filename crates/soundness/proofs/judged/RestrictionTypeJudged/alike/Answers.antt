-- `soundness::judged::RestrictionTypeJudged::alike` meets its contract. Assumes nothing.
use Rattle.soundness.proofs.SameWords.{type_alike_lem}
use Rattle.soundness.proofs.judged.RestrictionTypeJudged.alike.Goals as goal

pub returns : goal.returns
returns c = search type_alike_lem
