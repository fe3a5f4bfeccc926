-- `writing::bytes::Written::push_numbers` meets its contract.
use Rattle.writing.proofs.Texts.{list_next, list_end}
use Rattle.writing.proofs.bytes.Written.push_numbers.Goals as goal

pub loop-n-preserved : goal.loop-n-preserved
loop-n-preserved c = search list_next

pub returns : goal.returns
returns c = search list_end
