-- `soundness::free::runs_zero` meets its contract. Assumes nothing.
use Rattle.std.proofs.Common.{◌≡◌, ◌-◌, ◌≤◌, eqb}
use Rattle.soundness.proofs.FreeWords.{runs_zero}
use Rattle.soundness.proofs.free.runs_zero.Given as goal

abbrev pub invariant-loop-j : goal.invariant-loop-j
invariant-loop-j l = (l.j ≤ l.n) × (eqb l.x 0 ≡ runs_zero l.book.bytes.now l.from l.second l.third l.fourth l.j)

abbrev pub decreases-loop-j : goal.decreases-loop-j
decreases-loop-j l = l.n - l.j
