-- `soundness::judged::PeriodJudged::bucket` meets its contract. Assumes nothing.
use Rattle.soundness.proofs.BucketWords.{period_bucket_lem}
use Rattle.soundness.proofs.judged.PeriodJudged.bucket.Goals as goal

pub returns : goal.returns
returns c = search period_bucket_lem
