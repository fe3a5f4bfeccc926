-- `batches::answer_line` meets its contract. Assumes nothing.
use Rattle.batches.proofs.Filling.{turned}
use Rattle.batches.proofs.answer_line.Goals as goal

pub returns : goal.returns
returns c = search turned
