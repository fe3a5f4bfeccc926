-- `soundness::judged::RuleJudged::bucket` meets its contract. Assumes nothing.
use Rattle.soundness.proofs.BucketWords.{rule_bucket_lem}
use Rattle.soundness.proofs.judged.RuleJudged.bucket.Goals as goal

pub returns : goal.returns
returns c = search rule_bucket_lem
