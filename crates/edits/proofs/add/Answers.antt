-- `edits::add` meets its contract. Assumes nothing.
use mathlib.Core.Path.{sym, ap, ◌∙◌}
use Rattle.tables.specs.Table.{place_of}
use Rattle.owners.specs.Next.{place_if}
use Rattle.edits.proofs.Does.{stored_there, stored_nowhere}
use Rattle.edits.proofs.add.Goals as goal

pub returns-in-Some : goal.returns-in-Some
returns-in-Some g c =
    stored_there g.P.Store.put g.P.Place.PLACES _ c.args.b.now (λ i. c.args.r) c.in-Some.i c.put.new.b
    (sym c.in-Some.is ∙ c.find.ensures ∙ ap (λ x. place_if g.P.Place.PLACES (place_of g.P.Record.table c.args.b.now 0 (g.P.Record.asked x))) c.any.ensures)
    c.put.ensures

pub returns-in_default : goal.returns-in_default
returns-in_default g c =
    stored_nowhere g.P.Store.put g.P.Place.PLACES _ c.args.b.now (λ i. c.args.r) (sym c.in_default.is ∙ c.find.ensures ∙ ap (λ x. place_if g.P.Place.PLACES (place_of g.P.Record.table c.args.b.now 0 (g.P.Record.asked x))) c.any.ensures)
