-- `memory::marks_of` meets its contract. Assumes nothing.
use Prim.Native.Nat.{◌≤◌, ◌-◌}
use Rattle.memory.specs.Remembered.{MarksTo}
use Rattle.memory.proofs.marks_of.Given as goal

abbrev pub invariant-loop-n : goal.invariant-loop-n
invariant-loop-n l = (l.n ≤ 100) × MarksTo l.m l.marks l.n

abbrev pub decreases-loop-n : goal.decreases-loop-n
decreases-loop-n l = 100 - l.n
