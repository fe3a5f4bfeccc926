-- `marks::has_flag` meets its contract. Assumes nothing.
use Prim.Native.Nat.{◌%◌}
use Rattle.marks.proofs.Flagging.{flag_by}
use Rattle.marks.proofs.has_flag.Goals as goal

pub returns : goal.returns
returns g c = rw c.N.ensures (flag_by (c.args.k % g.F.Flags.N) c.args.x)
