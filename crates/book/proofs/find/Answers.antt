-- `book::find` meets its contract. Assumes nothing.
use Rattle.std.proofs.Common.{rules}
use Rattle.std.proofs.lemmas.Iterator.Search.{find_from_yields_List}
use Rattle.std.specs.Iterator.Adapters.{rev_steps}
use Rattle.tables.specs.Table.{hit}
use Rattle.book.proofs.Looking.{back, down_gives, found_last}
use Rattle.book.proofs.find.Goals as goal

pub returns : goal.returns
returns g c =
    let t = g.P.Record.table in
    let p = hit t c.args.b.now c.args.a (g.P.Record.asked c.args.q) in
    found_last _ t.places p c.find.result g.met.P.Record.stands.0
    (find_from_yields_List {steps = rev_steps back} {s = c.rev.result} p _ _ c.find.result c.find.ensures.ran
    (record { runs = down_gives _ _ _ c.PLACES.ensures c.rev.ensures.source })
    (λ x b q k. search rules))
