-- `owners::pass` meets its contract. Assumes nothing.
use Prim.Native.Nat.{◌-◌, ◌≤◌, ◌<◌}
use Rattle.owners.specs.Next.{owned, Passed}
use Rattle.owners.proofs.pass.Given as goal

abbrev pub invariant-loop-k : goal.invariant-loop-k
invariant-loop-k g l = (l.i ≤ l.k) × (l.k < 65536) × Passed (owned l.b g.P.Place.START g.P.Place.WIDTH l.a) l.i l.k

abbrev pub decreases-loop-k : goal.decreases-loop-k
decreases-loop-k g l = g.P.Place.PLACES - l.k
