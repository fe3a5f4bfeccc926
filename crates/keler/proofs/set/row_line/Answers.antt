-- `keler::set::row_line` meets its contract.
use native.Mathlib.Omega.{arith}
use Prim.Native.Nat.{ℕ, ◌<◌}
use Rattle.meaning.specs.Keler.{keler_rows}
use Rattle.keler.proofs.Tables.{row_column}
use Rattle.keler.proofs.SetLines.{rowed}
use Rattle.keler.proofs.set.row_line.Goals as goal

pub returns : goal.returns
unfolding keler_rows
returns c =
    let at = λ (k : ℕ) (h : k < 8). row_column c.args.n k c.requires h in
    rowed c.args.n c.args.set.csd c.args.set.day c.write_line.ensures (at 7 (omega arith)) (at 6 (omega arith)) (at 5 (omega arith))
    (at 4 (omega arith)) (at 3 (omega arith)) (at 2 (omega arith)) (at 1 (omega arith)) (at 0 (omega arith)) c.requires
