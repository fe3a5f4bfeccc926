-- `shapes::numbered::ShapeFromU8::from` meets its contract.
use Rattle.shapes.proofs.NumberRule.{row_at}
use Rattle.shapes.proofs.numbered.ShapeFromU8.from.Goals as goal

pub returns : goal.returns
returns c = row_at c.args.n c.row_named.ensures
