-- `desk::read_whole` stays in the text.
use Rattle.std.proofs.Common.{◌≤◌, ◌-◌, length}
use Rattle.desk.proofs.batch.read_whole.Given as goal

abbrev pub invariant-loop-held : goal.invariant-loop-held
invariant-loop-held g l = l.held ≤ length l.text

abbrev pub decreases-loop-held : goal.decreases-loop-held
decreases-loop-held g l = length l.text - l.held
