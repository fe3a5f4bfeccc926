-- `lines::answer_line` meets its contract. Assumes nothing.
use Rattle.lines.proofs.Turning.{turned}
use Rattle.lines.proofs.answer_line.Goals as goal

pub returns : goal.returns
returns c = search turned
