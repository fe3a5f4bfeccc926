-- `line::forms::decimal` meets its contract.
use Rattle.line.proofs.Loops.{decimal_next}
use Rattle.line.proofs.forms.decimal.Goals as goal

pub loop-c-preserved : goal.loop-c-preserved
loop-c-preserved c = search decimal_next
