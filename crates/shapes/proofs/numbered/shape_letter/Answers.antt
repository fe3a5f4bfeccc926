-- `shapes::numbered::shape_letter` meets its contract.
use Rattle.shapes.proofs.NumberRule.{letter_at}
use Rattle.shapes.proofs.numbered.shape_letter.Goals as goal

pub returns : goal.returns
returns c = letter_at c.args.shape c.from.result c.from.ensures c.letter.ensures
