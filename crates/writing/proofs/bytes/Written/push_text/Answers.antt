-- `writing::bytes::Written::push_text` meets its contract.
use Rattle.writing.proofs.Texts.{text_next, text_end}
use Rattle.writing.proofs.bytes.Written.push_text.Goals as goal

pub loop-c-preserved : goal.loop-c-preserved
loop-c-preserved c = search text_next

pub returns : goal.returns
returns c = search text_end
