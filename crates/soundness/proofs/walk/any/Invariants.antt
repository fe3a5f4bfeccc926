-- `soundness::walk::any` meets its contract. Assumes nothing.
use Rattle.chains.proofs.Walks.{WalkedTo}
use Rattle.soundness.proofs.walk.any.Given as goal

abbrev pub invariant-loop-j : goal.invariant-loop-j
invariant-loop-j g l = WalkedTo l.seen l.k (goal.F-pre g l.asked) (goal.F-post g l.asked) l.j

abbrev pub decreases-loop-j : goal.decreases-loop-j
decreases-loop-j g l = l.j
