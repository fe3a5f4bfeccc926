-- `marks::is_flagged` meets its contract. Assumes nothing.
use Prim.Native.Nat.{◌%◌, ◌/◌}
use mathlib.Core.Path.{ap, ◌∙◌}
use lib.ListN.{get_or}
use Rattle.marks.specs.Flags.{flag, flagged}
use Rattle.marks.proofs.is_flagged.Goals as goal

pub returns : goal.returns
unfolding flagged
returns g c =
    c.has_flag.ensures
    ∙ ap (flag (c.args.k % g.F.Flags.N)) (c.byte_at.ensures ∙ ap (λ n. get_or c.args.t.now (c.args.k / n) 0) c.N.ensures)
