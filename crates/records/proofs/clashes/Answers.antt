-- `records::clashes` meets its contract: written out, so that another comparison is refused for certain. Assumes
-- nothing.
use mathlib.Core.Path.{refl}
use Rattle.meaning.specs.Keys.{clash}
use Rattle.records.specs.Said.{period_of}
use Rattle.records.specs.Asks.{period_meets}
use Rattle.records.proofs.clashes.Goals as goal

pub returns : goal.returns
unfolding period_meets period_of clash
returns c = refl
