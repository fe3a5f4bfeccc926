-- `owners::eight_passed` meets its contract. Assumes nothing.
use native.Mathlib.Omega.{arith}
use Rattle.owners.proofs.Finding.{eight_passed}
use Rattle.owners.proofs.eight_passed.Goals as goal

pub returns-then-at-width : goal.returns-then-at-width
returns-then-at-width g c =
    eight_passed c.args.b.now _ _ c.args.a _ _ _ _ c.first_of_eight.ensures c.address-at.ensures (omega arith)
