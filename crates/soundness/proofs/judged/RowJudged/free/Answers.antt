-- `soundness::judged::RowJudged::free` meets its contract. Assumes nothing.
use Rattle.soundness.proofs.FreeWords.{row_free}
use Rattle.soundness.proofs.judged.RowJudged.free.Goals as goal

pub returns : goal.returns
returns c = search row_free
