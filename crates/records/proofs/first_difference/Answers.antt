-- `records::first_difference` meets its contract. The invariant: the values passed agree. Assumes nothing.
use mathlib.Core.Path.{◌≡◌}
use native.Mathlib.Omega.{arith}
use borrow.Author.Count.{below_more}
use borrow.Author.Rules.{rules}
use Rattle.records.proofs.Differences.{differ_at, agree_to}
use Rattle.records.proofs.first_difference.Goals as goal

pub overflow_cast-k : goal.overflow_cast-k
overflow_cast-k c = omega arith

pub offset_bounds-a-k : goal.offset_bounds-a-k
offset_bounds-a-k c = omega arith

pub bounds-a-k : goal.bounds-a-k
bounds-a-k c = omega arith

pub offset_bounds-b-k : goal.offset_bounds-b-k
offset_bounds-b-k c = omega arith

pub bounds-b-k : goal.bounds-b-k
bounds-b-k c = omega arith

pub returns-then-a-k : goal.returns-then-a-k
returns-then-a-k c = differ_at _ _ _ c.loop-i.invariant.1 c.if-a-k.true (search rules) (search rules)

pub overflow_step-i : goal.overflow_step-i
overflow_step-i c = omega arith

pub loop-i-smaller : goal.loop-i-smaller
loop-i-smaller c = omega arith

pub loop-i-preserved : goal.loop-i-preserved
loop-i-preserved c = (omega arith, below_more _ _ c.loop-i.invariant.1 c.if-a-k.false)

pub returns : goal.returns
returns c =
    let e : c.loop-i.i ≡ 10 = omega arith in agree_to _ _ 10 (rw e at c.loop-i.invariant.1) (search rules) (search rules)
