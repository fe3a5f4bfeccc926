-- `soundness::judged::PeriodJudged::fits` meets its contract. Assumes nothing.
use Rattle.soundness.proofs.FitWords.{period_fits_lem}
use Rattle.soundness.proofs.judged.PeriodJudged.fits.Goals as goal

pub returns : goal.returns
returns c = search period_fits_lem
