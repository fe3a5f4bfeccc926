-- `soundness::pass_block` meets its contract. Assumes nothing.
use Rattle.std.proofs.Common.{◌∙◌}
use Rattle.soundness.proofs.Passes.{block_first}
use Rattle.soundness.proofs.pass_block.Goals as goal

pub pass_each-requires-clause-going : goal.pass_each-requires-clause-going
pass_each-requires-clause-going g c = block_first c.args.book.bytes.now g.R.Placed.kind _ c.requires.block _ _ _ _ c.free_first-free.ensures (c.WIDTH.ensures ∙ g.met.R.Placed.wide) c.of-place.ensures c.requires.going
