-- `batches::answer_batch` meets its contract. Assumes nothing.
use Rattle.batches.proofs.Taking.{over_any}
use Rattle.batches.proofs.answer_batch.Goals as goal

pub returns : goal.returns
returns c = search over_any
