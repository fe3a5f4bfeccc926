-- `soundness::held` meets its contract. Assumes nothing.
use Rattle.std.proofs.Common.{◌≡◌, refl, rules}
use Rattle.soundness.specs.Kinds.{address_of, alike_at}
use Rattle.soundness.proofs.Walks.{held_walk, held_here}
use Rattle.soundness.proofs.held.Goals as goal

pub returns : goal.returns
returns g c =
    held_walk c.args.book.bytes.now g.R.Placed.kind c.args.i _ _ _ _ c.any.ensures c.requires.k_value c.requires.i_nonzero c.requires.chained_of
    (λ n t l p.
    let e : t ≡ alike_at c.args.book.bytes.now g.R.Placed.kind c.of-place.result.start (address_of g.R.Placed.kind n) = search (rules, p) in
    held_here c.args.book.bytes.now g.R.Placed.kind c.args.i n _ _ t e refl c.of-place.ensures)
