-- `soundness::buckets::key_bucket` meets its contract. Assumes nothing.
use Rattle.soundness.specs.Buckets.{key_bucket}
use Rattle.std.proofs.Common.{rules}
use Rattle.soundness.proofs.buckets.key_bucket.Goals as goal

pub returns : goal.returns
unfolding key_bucket
returns c = search rules
