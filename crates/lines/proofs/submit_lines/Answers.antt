-- `lines::submit_lines` meets its contract. Assumes nothing.
use Rattle.lines.proofs.Steps.{exactly, sent_lines}
use Rattle.lines.proofs.submit_lines.Goals as goal

pub returns : goal.returns
returns c = search (exactly, sent_lines)
