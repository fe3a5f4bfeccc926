-- `desk::Spaces::answer_all` meets its contract.
use Rattle.std.proofs.Common.{arith}
use Rattle.desk.proofs.Looping.{going_on, going_end}
use Rattle.desk.proofs.Spaces.answer_all.Goals as goal

pub returns-then-is_end : goal.returns-then-is_end
returns-then-is_end g c =
    going_end c.loop.invariant c.in_ok-came.ensures c.answer_end.result (omega (arith, c.if-is_end.true))
    c.answer_end.ensures

pub loop-preserved : goal.loop-preserved
loop-preserved g c = going_on c.loop.invariant c.in_ok-came.ensures c.if-is_end.false c.in_ok-desk.ensures
