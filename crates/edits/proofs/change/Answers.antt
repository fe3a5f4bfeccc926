-- `edits::change` meets its contract. Assumes nothing.
use mathlib.Core.Path.{sym, ◌∙◌, refl}
use Rattle.edits.proofs.Does.{changed_there, changed_nowhere}
use Rattle.edits.proofs.change.Goals as goal

pub returns-in-Some : goal.returns-in-Some
returns-in-Some g c =
    changed_there g.P.Place.at g.P.Store.put g.P.Place.PLACES _ _ c.args.b.now _ c.in-Some.i _ _ (sym c.in-Some.is ∙ c.find.ensures) c.record_at.ensures c.f.ensures c.put.ensures

pub returns : goal.returns
returns g c =
    changed_nowhere g.P.Place.at g.P.Store.put g.P.Place.PLACES _ _ c.args.b.now _ (sym c.in_default.is ∙ c.find.ensures) refl
