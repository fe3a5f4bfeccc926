-- `soundness::judged::RestrictionTypeJudged::fits` meets its contract. Assumes nothing.
use Rattle.soundness.proofs.FitWords.{type_fits_lem}
use Rattle.soundness.proofs.judged.RestrictionTypeJudged.fits.Goals as goal

pub returns : goal.returns
returns c = search type_fits_lem
