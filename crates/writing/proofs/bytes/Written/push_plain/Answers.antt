-- `writing::bytes::Written::push_plain` meets its contract.
use Rattle.meaning.specs.Writing.{write}
use Rattle.shapes.proofs.Choices.{choice_form}
use Rattle.writing.proofs.FieldTexts.{four_letters, three_letters, number_written}
use Rattle.writing.proofs.bytes.Written.push_plain.Goals as goal

pub returns-in-Csd : goal.returns-in-Csd
returns-in-Csd c = rw (number_written c.args.form c.args.n c.in-Csd.is) c.push_number.ensures

pub returns-in-Sign : goal.returns-in-Sign
unfolding write
returns-in-Sign c = rw (choice_form c.args.form c.in-Sign.is, ← c.words.ensures.words) c.push_word.ensures

pub returns-in-Transaction : goal.returns-in-Transaction
unfolding write
returns-in-Transaction c = rw (c.in-Transaction.is, four_letters c.args.n, ← c.to_be_bytes.ensures) c.push_text.ensures

pub returns-in-Currency : goal.returns-in-Currency
unfolding write
returns-in-Currency c =
    rw (c.in-Currency.is, three_letters c.args.n) (rw c.to_be_bytes-in-Currency.ensures at c.push_text-in-Currency.ensures)
