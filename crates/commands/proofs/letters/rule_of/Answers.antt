-- `commands::letters::rule_of` meets its contract. Assumes nothing.
use Rattle.commands.proofs.Decoded.{made_rule}
use Rattle.commands.proofs.letters.rule_of.Goals as goal

pub returns : goal.returns
returns c = search made_rule
