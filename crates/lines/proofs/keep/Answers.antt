-- `lines::keep` meets its contract. Assumes nothing.
use Rattle.lines.proofs.Laying.{kept}
use Rattle.lines.proofs.keep.Goals as goal

pub returns : goal.returns
returns c = search kept
