-- `soundness::judged::RowJudged::bucket` meets its contract. Assumes nothing.
use Rattle.soundness.proofs.BucketWords.{row_bucket_lem}
use Rattle.soundness.proofs.judged.RowJudged.bucket.Goals as goal

pub returns : goal.returns
returns c = search row_bucket_lem
