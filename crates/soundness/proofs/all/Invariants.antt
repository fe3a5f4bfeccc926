-- `soundness::all` meets its contract. Assumes nothing.
use Rattle.std.proofs.Common.{◌-◌, ◌/◌, ◌≤◌}
use Rattle.chains.specs.Sizes.{block_places}
use Rattle.soundness.proofs.Passes.{AllTo}
use Rattle.soundness.proofs.all.Given as goal

abbrev pub invariant-loop-block : goal.invariant-loop-block
invariant-loop-block g l = (l.block ≤ g.R.Place.PLACES / block_places) × AllTo l.book.bytes.now g.R.Placed.kind l.block l.seen

abbrev pub decreases-loop-block : goal.decreases-loop-block
decreases-loop-block g l = g.R.Place.PLACES / block_places - l.block
