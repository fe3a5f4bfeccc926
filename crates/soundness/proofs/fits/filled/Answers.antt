-- `soundness::fits::filled` meets its contract. Assumes nothing.
use Rattle.std.proofs.Common.{◌∙◌}
use Rattle.soundness.proofs.FitWords.{all_none, all_unfit, all_filled}
use Rattle.soundness.proofs.fits.filled.Goals as goal

pub returns-in_err-names : goal.returns-in_err-names
returns-in_err-names c = c.from_residual.ensures ∙ all_none c.args.book.bytes.now c.args.place.start c.filled_names.ensures.value c.in_err-names.was

pub returns-then-not-party-movement : goal.returns-then-not-party-movement
returns-then-not-party-movement c = let e = c.in_ok-names.was in search all_unfit

pub returns : goal.returns
returns c = let e = c.in_ok-names.was in search all_filled
