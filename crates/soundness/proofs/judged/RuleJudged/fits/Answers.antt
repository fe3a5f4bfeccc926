-- `soundness::judged::RuleJudged::fits` meets its contract. Assumes nothing.
use Rattle.std.proofs.Common.{ap, not}
use Rattle.soundness.proofs.FitWords.{rule_fits_lem}
use Rattle.soundness.proofs.KindReturns.{rule_unfit, rule_fit}
use Rattle.soundness.proofs.judged.RuleJudged.fits.Goals as goal

pub returns-then-not-rule_key_fits-signed : goal.returns-then-not-rule_key_fits-signed
returns-then-not-rule_key_fits-signed c =
    let e = rw (c.new-place.ensures) at c.rule_key_fits.ensures in
    rule_unfit c.args.book.bytes.now c.args.at _ (search rule_fits_lem) (ap not c.if-not-rule_key_fits-signed.true)

pub returns : goal.returns
returns c =
    let e = rw (c.new-place.ensures) at c.rule_key_fits.ensures in
    rule_fit c.args.book.bytes.now c.args.at _ _ (search rule_fits_lem) (ap not c.if-not-rule_key_fits-signed.false) (rw (c.new-place.ensures) at c.typed.ensures)
