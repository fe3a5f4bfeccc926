-- `text::printing::print_verdict` meets its contract.
use Rattle.text.proofs.Printings.{verdict}
use Rattle.text.proofs.printing.print_verdict.Goals as goal

pub returns : goal.returns
returns c = search verdict
