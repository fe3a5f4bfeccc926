-- `line_main::show`: a refusal is a digit.
use Rattle.std.proofs.Common.{arith, sym, ◌∙◌}
use Rattle.line.proofs.LineCallers.{was_refused}
use Rattle.line_main.proofs.show.Goals as goal

pub overflow_add-shown : goal.overflow_add-shown
overflow_add-shown g c =
    let h = was_refused c.args.line.now (sym c.in-Err.is ∙ c.read_line.ensures) in omega (arith, h.high, c.from.ensures)
