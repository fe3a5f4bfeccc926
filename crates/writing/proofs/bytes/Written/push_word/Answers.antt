-- `writing::bytes::Written::push_word` meets its contract.
use Rattle.writing.proofs.FieldTexts.{no_word}
use Rattle.writing.proofs.bytes.Written.push_word.Goals as goal

pub returns-in_default : goal.returns-in_default
returns-in_default c = no_word _ _ _ c.saturating_sub-i.ensures c.in_default.ensures.lookup.0
