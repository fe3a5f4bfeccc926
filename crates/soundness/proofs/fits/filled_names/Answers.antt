-- `soundness::fits::filled_names` meets its contract. Assumes nothing.
use Rattle.std.proofs.Common.{◌∙◌}
use Rattle.soundness.proofs.FitWords.{word_or_none, names_none, names_unfit, names_filled}
use Rattle.soundness.proofs.fits.filled_names.Goals as goal

pub returns-in_err-codes-clause-value : goal.returns-in_err-codes-clause-value
returns-in_err-codes-clause-value c = c.from_residual.ensures ∙ names_none c.args.book.bytes.now c.args.place.start c.filled_codes.ensures.value c.in_err-codes.was

pub returns-then-not-or_none-security-clause-value : goal.returns-then-not-or_none-security-clause-value
returns-then-not-or_none-security-clause-value c = let e = c.in_ok-codes.was in let t = word_or_none 4 c.or_none.ensures in search names_unfit

pub returns-clause-value : goal.returns-clause-value
returns-clause-value c = let e = c.in_ok-codes.was in let t = word_or_none 4 c.or_none.ensures in search names_filled
