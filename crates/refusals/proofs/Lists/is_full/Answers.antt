-- `refusals::Lists::is_full` meets its contract: a count of all is the list's length. Assumes nothing.
use Rattle.refusals.proofs.Full.{full_of}
use Rattle.refusals.proofs.Lists.is_full.Goals as goal

pub returns : goal.returns
returns g c =
    full_of g.P.Record.table g.P.Record.asked g.P.Record.any g.met.P.Record.all c.args.self.csd c.args.self.book.now _ _ _ _ c.QUOTA.ensures g.met.P.Record.stands.1 c.any.ensures c.count.ensures.0
