-- `owners::next` meets its contract. Assumes nothing.
use Rattle.std.proofs.Common.{rules, ℕ, ◌≡◌, Bool, true, false, ap, ◌∙◌}
use borrow.Author.Tests.{tests}
use Rattle.std.proofs.lemmas.Iterator.{serves_from_Range, first_from_Range}
use Rattle.owners.specs.Next.{owned, place_if}
use Rattle.owners.proofs.Finding.{found_next, next_of}
use Rattle.owners.proofs.next.Goals as goal

pub find-requires-clause-callable : goal.find-requires-clause-callable
find-requires-clause-callable g c = serves_from_Range (λ x q k. search rules) (λ x l h y e. search rules)

pub returns : goal.returns
returns g c =
    let p : ℕ → Bool = owned c.args.b.now g.P.Place.START g.P.Place.WIDTH c.args.a in
    found_next p g.P.Place.PLACES c.args.i _ _ c.find.result c.PLACES.ensures c.pass-from.ensures.0 c.pass-from.ensures.1
    (first_from_Range _ _ _ c.find.result (λ x. p x ≡ true) (λ x. p x ≡ false) c.find.ensures.ran (λ x q k. search (rules, tests)) (λ x q k. search (rules, tests)))
    ∙ ap (place_if g.P.Place.PLACES)
    (next_of g.P.Place.csd g.P.Place.at g.P.Place.from g.P.Place.widths _ _ g.met.P.Place.reads g.met.P.Place.first
    c.args.b.now c.args.a g.P.Place.PLACES c.args.i)
