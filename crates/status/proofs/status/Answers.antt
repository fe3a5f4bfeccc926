-- `status::status` meets its contract. The check finds these answers alone; named, each wrong status is refused at
-- once.
use Rattle.status.proofs.Reasons.{by_rule, by_wish, by_rejection}
use Rattle.status.proofs.status.Goals as goal

pub returns-then-is_some : goal.returns-then-is_some
returns-then-is_some c = by_rule c.args.v c.args.w c.is_none.ensures c.if-is_none.true c.is_some.ensures c.if-is_some.true

pub returns-else-is_some : goal.returns-else-is_some
returns-else-is_some c =
    by_wish c.args.v c.args.w c.is_none.ensures c.if-is_none.true c.is_some.ensures c.if-is_some.false c.is_wished.ensures

pub returns-else-is_none : goal.returns-else-is_none
returns-else-is_none c = by_rejection c.args.v c.args.w c.is_none.ensures c.if-is_none.false
