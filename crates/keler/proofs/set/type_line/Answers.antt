-- `keler::set::type_line` meets its contract.
use mathlib.Core.Path.{refl}
use Rattle.meaning.specs.Keler.{keler_types}
use Rattle.keler.proofs.SetLines.{typed}
use Rattle.keler.proofs.set.type_line.Goals as goal

pub returns : goal.returns
unfolding keler_types
returns c = typed c.args.n c.args.set.csd c.args.set.day c.args.set.first c.args.set.last c.write_line.ensures refl refl refl c.requires
