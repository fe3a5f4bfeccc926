-- No condition holds that was passed. Assumes nothing.
use mathlib.Core.Path.{◌≡◌}
use lib.ListN.{drop}
use Rattle.meaning.specs.Refusals.{first_of}
use Rattle.refusals.proofs.first_of.Given as goal

abbrev pub invariant-loop-refusal : goal.invariant-loop-refusal
invariant-loop-refusal l = first_of (drop l.refusal-index l.conditions) ≡ first_of l.conditions
