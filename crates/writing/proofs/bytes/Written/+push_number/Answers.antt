-- `writing::bytes::Written::push_number` meets its contract.
use native.Mathlib.Omega.{arith}
use mathlib.Core.Path.{◌≡◌, ◌∙◌}
use Prim.Native.Nat.{◌+◌}
use Rattle.writing.proofs.Texts.{one_digit, more_digits}
use Rattle.writing.proofs.bytes.Written.+push_number.Goals as goal
use Rattle.writing.proofs.bytes.Written.+push_number.Goals.{then-n-ge10, else-n-ge10}

pub returns : goal.returns
returns t c =
    elim c.if-n-ge10.branch [
      | then-n-ge10 w ↦ more_digits c.args.self.now c.args.n w.if-n-ge10.true (w.self-is ∙ w.push_number.ensures) c.digit.ensures c.push.ensures
      | else-n-ge10 w ↦ let d : c.digit.result ≡ 48 + c.args.n = omega (arith, c.digit.ensures) in one_digit c.args.self.now c.args.n w.if-n-ge10.false d (rw w.self-is at c.push.ensures)
    ]
