-- `soundness::judged::RuleJudged::alike` meets its contract. Assumes nothing.
use Rattle.soundness.proofs.SameWords.{rule_alike_lem}
use Rattle.soundness.proofs.judged.RuleJudged.alike.Goals as goal

pub returns : goal.returns
returns c = search rule_alike_lem
