-- `stores::put_numbers` meets its contract. Assumes nothing.
use Rattle.std.proofs.Common.{sym, ◌∙◌}
use Rattle.stores.proofs.Storing.{numbers_put, numbers_end}
use Rattle.stores.proofs.put_numbers.Goals as goal

pub loop-n-preserved : goal.loop-n-preserved
loop-n-preserved c =
    numbers_put c.args.numbers.now _ c.loop-n.b _ c.loop-n.at _ c.loop-n.n-index _ _ c.loop-n-test.true
    c.put_number-at.ensures.0 c.put_number-at.ensures.1 c.loop-n.invariant.0 c.loop-n.invariant.1

pub returns : goal.returns
returns c =
    sym (numbers_end c.args.numbers.now c.loop-n.b c.loop-n.at c.loop-n.n-index c.loop-n-test.false)
    ∙ c.loop-n.invariant.1
