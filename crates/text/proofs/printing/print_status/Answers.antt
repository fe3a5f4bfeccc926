-- `text::printing::print_status` meets its contract.
use Rattle.text.proofs.Printings.{status_printed, letter_y, letter_n}
use Rattle.text.proofs.printing.print_status.Goals as goal
use Rattle.text.proofs.printing.print_status.Goals.{then-status, else-status}

pub returns : goal.returns
returns c = elim c.if-status.branch [ then-status w ↦ search (status_printed, letter_y) | else-status w ↦ search (status_printed, letter_n) ]
