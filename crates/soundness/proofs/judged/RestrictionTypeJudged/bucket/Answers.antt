-- `soundness::judged::RestrictionTypeJudged::bucket` meets its contract. Assumes nothing.
use Rattle.soundness.proofs.BucketWords.{type_bucket_lem}
use Rattle.soundness.proofs.judged.RestrictionTypeJudged.bucket.Goals as goal

pub returns : goal.returns
returns c = search type_bucket_lem
