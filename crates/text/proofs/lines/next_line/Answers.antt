-- `text::lines::next_line` meets its contract.
use Rattle.text.proofs.Splitting.{line_ended, line_last}
use Rattle.text.proofs.lines.next_line.Goals as goal

pub returns-then-end-text : goal.returns-then-end-text
returns-then-end-text c = search line_ended

pub returns-else-end-text : goal.returns-else-end-text
returns-else-end-text c = search line_last
