-- `keler::set::rule_line` meets its contract.
use mathlib.Core.Path.{refl}
use Rattle.meaning.specs.Keler.{keler_rules}
use Rattle.keler.proofs.SetLines.{ruled}
use Rattle.keler.proofs.set.rule_line.Goals as goal

pub returns : goal.returns
unfolding keler_rules
returns c = ruled c.args.n c.args.set.csd c.args.set.day c.args.set.first c.args.set.last c.write_line.ensures refl refl refl refl refl c.requires
