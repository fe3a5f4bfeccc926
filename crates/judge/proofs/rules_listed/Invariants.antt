-- `judge::rules_listed` meets its contract. Assumes nothing.
use Rattle.std.proofs.Common.{◌-◌, ◌≤◌}
use Rattle.tables.specs.Keyed.{marked}
use Rattle.judge.specs.Stages.{sequences, Listed}
use Rattle.judge.proofs.rules_listed.Given as goal

abbrev pub invariant-loop-s : goal.invariant-loop-s
invariant-loop-s l = (1 ≤ l.s) × ((l.s ≤ sequences) × Listed (marked l.rules) l.s l.t)

abbrev pub decreases-loop-s : goal.decreases-loop-s
decreases-loop-s l = sequences - l.s
