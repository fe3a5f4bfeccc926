-- `text::printing::print` meets its contract.
use Rattle.text.proofs.Printings.{taken, refusal}
use Rattle.text.proofs.printing.print.Goals as goal

pub returns-in-Taken : goal.returns-in-Taken
returns-in-Taken c = search taken

pub returns-in-Refused : goal.returns-in-Refused
returns-in-Refused c = search refusal
