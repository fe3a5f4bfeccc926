-- `owners::PlacesOf` is an iterator: each call gives a place that is none before, so that fewer are left. Assumes
-- nothing.
use Prim.Native.Nat.{◌≤◌, ◌<◌}
use mathlib.Core.Path.{refl, sym, ◌∙◌}
use native.Mathlib.Omega.{arith}
use Rattle.owners.proofs.Finding.{place_from}
use Rattle.owners.proofs.PlacesOfIterator.next.Goals as goal

pub overflow_add-self : goal.overflow_add-self
overflow_add-self g c =
    let f : (c.args.self.now.i ≤ c.in-Some.k) × (c.in-Some.k < g.P.Place.PLACES) = place_from _ _ _ _ (sym c.in-Some.is ∙ c.next.ensures) in
    omega (arith, f.1, c.PLACES-places.ensures)

-- by named facts, so that a wrong place is refused for certain
pub returns-in-Some-clause-steps : goal.returns-in-Some-clause-steps
returns-in-Some-clause-steps g c = (sym c.in-Some.is ∙ c.next.ensures, refl, refl, refl)

pub returns-in-Some-clause-goes : goal.returns-in-Some-clause-goes
returns-in-Some-clause-goes g c =
    let f : (c.args.self.now.i ≤ c.in-Some.k) × (c.in-Some.k < g.P.Place.PLACES) = place_from _ _ _ _ (sym c.in-Some.is ∙ c.next.ensures) in
    record { on = λ u. (tt, tt, omega (arith, f.0, f.1)); keeps = tt; rests = λ u. tt }
