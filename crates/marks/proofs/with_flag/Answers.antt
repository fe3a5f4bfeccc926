-- `marks::with_flag` meets its contract. Assumes nothing.
use Prim.Native.Nat.{◌%◌}
use native.Mathlib.Omega.{arith}
use Rattle.marks.proofs.Flagging.{joined_by}
use Rattle.marks.proofs.with_flag.Goals as goal

pub returns : goal.returns
returns g c = rw c.N.ensures (joined_by (c.args.k % g.F.Flags.N) c.args.x (omega (arith, g.F.Flags.some, g.F.Flags.few)))
