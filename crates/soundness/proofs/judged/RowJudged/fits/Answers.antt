-- `soundness::judged::RowJudged::fits` meets its contract. Assumes nothing.
use Rattle.soundness.proofs.KindReturns.{row_fit}
use Rattle.soundness.proofs.judged.RowJudged.fits.Goals as goal

pub returns : goal.returns
returns c = let e = rw (c.new.ensures) at c.ruled.ensures in search row_fit
