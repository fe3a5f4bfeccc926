-- `soundness::judged::RuleJudged::free` meets its contract. Assumes nothing.
use Rattle.soundness.proofs.FreeWords.{rule_free}
use Rattle.soundness.proofs.judged.RuleJudged.free.Goals as goal

pub returns : goal.returns
returns c = search rule_free
