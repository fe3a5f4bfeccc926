-- `commands::letters::ask_of` meets its contract. Assumes nothing.
use Rattle.commands.proofs.Decoded.{made_question}
use Rattle.commands.proofs.letters.ask_of.Goals as goal

pub returns : goal.returns
returns c = search made_question
