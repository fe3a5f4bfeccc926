-- The iterator gives the lines that it has left. Assumes nothing.
use Rattle.std.proofs.Common.{rules, arith}
use mathlib.Core.Path.{ap}
use lib.ListN.{length}
use Rattle.batches.proofs.Counting.{no_lines}
use Rattle.batches.proofs.LinesIterator.next.Goals as goal

pub returns-then-self-clause-steps : goal.returns-then-self-clause-steps
returns-then-self-clause-steps c =
    let none = no_lines c.args.self.now.text.now c.args.self.now.at c.if-self.true in (none, none)

pub returns-clause-steps : goal.returns-clause-steps
returns-clause-steps c = c.next_line-line.ensures.line (omega arith)

pub returns-clause-goes : goal.returns-clause-goes
returns-clause-goes c =
    let shorter = ap length (c.next_line-line.ensures.line (omega arith)) in search rules
