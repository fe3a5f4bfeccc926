-- `precheck::submit` meets its contract. Assumes nothing.
use Rattle.answering.proofs.Submits.{submits}
use Rattle.precheck.proofs.submit.Goals as goal

pub returns : goal.returns
returns c = search submits
