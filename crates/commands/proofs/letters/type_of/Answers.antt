-- `commands::letters::type_of` meets its contract. Assumes nothing.
use Rattle.commands.proofs.Decoded.{made_type}
use Rattle.commands.proofs.letters.type_of.Goals as goal

pub returns : goal.returns
returns c = search made_type
