-- `records::is_held` meets its contract: written out, so that another test is refused for certain. Assumes nothing.
use mathlib.Core.Path.{refl}
use Rattle.meaning.specs.Keys.{is_kept}
use Rattle.meaning.specs.Pending.{held_by, is_held}
use Rattle.records.specs.Said.{instruction_of}
use Rattle.records.specs.Asks.{instruction_meets}
use Rattle.records.proofs.is_held.Goals as goal

pub returns : goal.returns
unfolding instruction_meets instruction_of held_by is_held is_kept
returns c = rw c.held_since.ensures refl
