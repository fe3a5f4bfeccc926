-- `soundness::judged::PeriodJudged::free` meets its contract. Assumes nothing.
use Rattle.soundness.proofs.FreeWords.{period_free}
use Rattle.soundness.proofs.judged.PeriodJudged.free.Goals as goal

pub returns : goal.returns
returns c = search period_free
