-- `writing::bytes::Written::push_field` meets its contract.
use Rattle.writing.proofs.FieldTexts.{filled, empty, given}
use Rattle.writing.proofs.bytes.Written.push_field.Goals as goal

pub returns-in-Filled : goal.returns-in-Filled
returns-in-Filled c = rw c.in-Filled.is (filled _ _ _ c.push.ensures c.push_plain.ensures)

pub returns-then-n-ne0 : goal.returns-then-n-ne0
returns-then-n-ne0 c = rw c.in-Optional.is (given _ _ _ c.push.ensures c.if-n-ne0.true c.push_plain-then-n-ne0.ensures)

pub returns-else-n-ne0 : goal.returns-else-n-ne0
returns-else-n-ne0 c = rw c.in-Optional.is (empty _ _ _ c.push.ensures c.if-n-ne0.false)
