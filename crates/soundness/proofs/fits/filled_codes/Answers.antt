-- `soundness::fits::filled_codes` meets its contract. Assumes nothing.
use Rattle.std.proofs.Common.{ap, not}
use Rattle.meaning.specs.Forms.{code}
use Rattle.soundness.proofs.FitWords.{or_none_holds, word_or_none, codes_unfit, codes_filled}
use Rattle.soundness.proofs.fits.filled_codes.Goals as goal

pub returns-then-not-codes-or_none-clause-value : goal.returns-then-not-codes-or_none-clause-value
returns-then-not-codes-or_none-clause-value c =
    let party = or_none_holds code c.or_none-3.ensures in
    let account = or_none_holds code c.or_none.ensures in
    let security = or_none_holds code c.or_none-2.ensures in
    let currency = word_or_none 3 c.or_none-4.ensures in
    search codes_unfit

pub returns-clause-value : goal.returns-clause-value
returns-clause-value c =
    let party = or_none_holds code c.or_none-3.ensures in
    let account = or_none_holds code c.or_none.ensures in
    let security = or_none_holds code c.or_none-2.ensures in
    let currency = word_or_none 3 c.or_none-4.ensures in
    codes_filled c.args.book.bytes.now c.args.place.start party account security currency c.two-party.ensures.value c.two-account.ensures.value c.two-security.ensures.value c.three-currency.ensures.value (ap not c.if-not-codes-or_none.false) c.one_more.ensures.value c.one_more-last.ensures.value c.one_more-2.ensures.value c.one_more-3.ensures.value
