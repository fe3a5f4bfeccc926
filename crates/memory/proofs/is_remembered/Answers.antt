-- `memory::is_remembered` meets its contract. Assumes nothing.
use mathlib.Core.Path.{ap, ◌∙◌}
use Rattle.marks.specs.Flags.{flagged}
use Rattle.memory.specs.Remembered.{bit_of}
use Rattle.memory.proofs.is_remembered.Goals as goal

pub returns : goal.returns
unfolding bit_of
returns c = c.is_flagged.ensures ∙ ap (flagged 8 c.args.m) c.from.ensures
