-- `line::reading::is_shape` meets its contract.
use Rattle.line.proofs.ShapeRows.{same_count}
use Rattle.line.proofs.reading.is_shape.Goals as goal

pub returns-then-is_letter : goal.returns-then-is_letter
returns-then-is_letter c =
    same_count c.args.letter c.args.count c.args.shape c.fields.result.now c.is_letter.ensures c.fields.ensures.forms c.if-is_letter.true
