-- `lines::answer_lines` meets its contract. Assumes nothing.
use Rattle.lines.proofs.Turning.{Going}
use Prim.Native.Nat.{◌-◌}
use lib.ListN.{length}
use Rattle.lines.proofs.answer_lines.Given as goal

abbrev pub invariant-loop-line : goal.invariant-loop-line
invariant-loop-line l = Going l.initial.book l.text l.initial.out l.sound l.book l.out l.read l.written

abbrev pub decreases-loop-line : goal.decreases-loop-line
decreases-loop-line l = length l.text - l.read
