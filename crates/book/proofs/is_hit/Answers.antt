-- `book::is_hit` meets its contract: the facts are named, so that another place or record is refused for certain.
-- Assumes nothing.
use Rattle.book.proofs.Place.{hit_at, miss_at}
use Rattle.book.proofs.is_hit.Goals as goal

pub returns-then-csd_at-a : goal.returns-then-csd_at-a
returns-then-csd_at-a g c =
    let s = g.met.P.Record.stands in
    hit_at g.P.Record.table _ _ s.2 s.3 c.args.b.now _ (g.P.Record.asked c.args.q) _ _ _ _ c.csd_at.ensures c.if-csd_at-a.true c.record_at.ensures c.meets.ensures

pub returns : goal.returns
returns g c =
    let s = g.met.P.Record.stands in
    miss_at g.P.Record.table _ _ s.2 s.3 c.args.b.now _ (g.P.Record.asked c.args.q) _ _ c.csd_at.ensures c.if-csd_at-a.false
