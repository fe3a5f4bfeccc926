-- `soundness::pass_each` meets its contract. Assumes nothing.
use Rattle.std.proofs.Common.{◌+◌, ◌-◌, ◌≤◌}
use Rattle.chains.specs.Sizes.{block_places}
use Rattle.chains.specs.Chains.{Going}
use Rattle.soundness.specs.Kinds.{table_of, csd_of, bucket_of, right_of}
use Rattle.soundness.proofs.pass_each.Given as goal

abbrev pub invariant-loop-i : goal.invariant-loop-i
invariant-loop-i g l = (l.i ≤ l.from + block_places) × Going (csd_of l.book.bytes.now g.R.Placed.kind) (bucket_of l.book.bytes.now g.R.Placed.kind) (table_of g.R.Placed.kind).places (right_of l.book.bytes.now g.R.Placed.kind) l.i l.seen

abbrev pub decreases-loop-i : goal.decreases-loop-i
decreases-loop-i g l = l.from + block_places - l.i
