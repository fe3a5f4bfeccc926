-- `soundness::judged::PeriodJudged::alike` meets its contract. Assumes nothing.
use Rattle.soundness.proofs.SameWords.{period_key_no, period_number_no, period_attribute_no, period_later, period_alike_lem}
use Rattle.soundness.proofs.judged.PeriodJudged.alike.Goals as goal

pub returns-then-two : goal.returns-then-two
returns-then-two c = search period_key_no

pub returns-then-three : goal.returns-then-three
returns-then-three c = search period_number_no

pub returns-then-two-2 : goal.returns-then-two-2
returns-then-two-2 c = search period_attribute_no

pub returns-then-four : goal.returns-then-four
returns-then-four c = search period_later

pub returns : goal.returns
returns c = search period_alike_lem
