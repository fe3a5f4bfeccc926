-- `owners::pass` meets its contract; facts are named, so that a wrong one is refused for certain.
use native.Mathlib.Omega.{arith}
use Rattle.owners.proofs.Finding.{passed_on}
use Rattle.owners.proofs.pass.Goals as goal

pub returns-then-n-lt8 : goal.returns-then-n-lt8
returns-then-n-lt8 g c = (omega arith, passed_on _ _ _ _ c.loop-k.invariant.2 c.eight_passed-n.ensures.1)
