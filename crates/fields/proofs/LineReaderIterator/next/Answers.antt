-- The reader gives the fields that it has left.
use Rattle.std.proofs.Common.{rules, arith}
use mathlib.Core.Path.{ap}
use lib.ListN.{length}
use Rattle.fields.proofs.Cutting.{passes, passes_none}
use Rattle.fields.proofs.LineReaderIterator.next.Goals as goal

pub returns-then-self-clause-steps : goal.returns-then-self-clause-steps
returns-then-self-clause-steps c =
    let none = passes_none c.args.self.now.line.now c.args.self.now.at c.if-self.true in (none, none)

pub returns-clause-steps : goal.returns-clause-steps
returns-clause-steps c = passes c.args.self.now.line.now c.args.self.now.at (omega arith) c.cut-end.ensures

pub returns-clause-goes : goal.returns-clause-goes
returns-clause-goes c =
    let step = passes c.args.self.now.line.now c.args.self.now.at (omega arith) c.cut-end.ensures in
    let shorter = ap length step in search rules
