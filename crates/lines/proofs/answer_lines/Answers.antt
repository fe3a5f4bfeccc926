-- `lines::answer_lines` meets its contract. Assumes nothing.
use Rattle.lines.proofs.Turning.{going_on, going_full, going_out}
use Rattle.lines.proofs.answer_lines.Goals as goal

pub returns-then-end-text : goal.returns-then-end-text
returns-then-end-text c = search going_out

pub loop-line-preserved : goal.loop-line-preserved
loop-line-preserved c = search going_on

pub returns : goal.returns
returns c = search going_full
