-- `soundness::judged::RowJudged::alike` meets its contract. Assumes nothing.
use Rattle.soundness.proofs.SameWords.{row_key_no, row_front_no, row_middle_no, row_alike_lem}
use Rattle.soundness.proofs.judged.RowJudged.alike.Goals as goal

pub returns-then-four : goal.returns-then-four
returns-then-four c = search row_key_no

pub returns-then-seven_after : goal.returns-then-seven_after
returns-then-seven_after c = search row_front_no

pub returns-then-eight : goal.returns-then-eight
returns-then-eight c = search row_middle_no

pub returns : goal.returns
returns c = search row_alike_lem
