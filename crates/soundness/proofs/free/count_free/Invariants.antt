-- `soundness::free::count_free` meets its contract. Assumes nothing.
use Rattle.std.proofs.Common.{◌≡◌, ◌+◌, ◌-◌, ◌*◌, ◌≤◌}
use Rattle.chains.specs.Sizes.{block_places}
use Rattle.chains.specs.Blocks.{FreeFirst}
use Rattle.soundness.proofs.free.count_free.Given as goal

abbrev pub invariant-loop-n : goal.invariant-loop-n
invariant-loop-n l =
    (l.n ≤ block_places - 1) × FreeFirst l.book.bytes.now l.from l.width.bytes l.n
    × (l.n * l.width.bytes ≤ (block_places - 1) * l.width.bytes)

abbrev pub decreases-loop-n : goal.decreases-loop-n
decreases-loop-n l = block_places - l.n
