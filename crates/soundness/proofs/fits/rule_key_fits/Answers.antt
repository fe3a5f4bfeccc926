-- `soundness::fits::rule_key_fits` meets its contract. Assumes nothing.
use Rattle.soundness.proofs.FitWords.{key_fits_lem}
use Rattle.soundness.proofs.fits.rule_key_fits.Goals as goal

pub returns : goal.returns
returns c = search key_fits_lem
