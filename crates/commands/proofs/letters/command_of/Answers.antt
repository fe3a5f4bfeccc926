-- `commands::letters::command_of` meets its contract. Assumes nothing.
use Rattle.commands.specs.Asked.{coded}
use Rattle.commands.proofs.letters.command_of.Goals as goal

pub returns : goal.returns
unfolding coded
returns c = rw (c.low.ensures, c.what_of.ensures)
