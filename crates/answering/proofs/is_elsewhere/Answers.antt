-- `answering::is_elsewhere` meets its contract. Assumes nothing.
use Rattle.answering.proofs.Commands.{elsewhere_alone, elsewhere_batch}
use Rattle.answering.proofs.is_elsewhere.Goals as goal

pub returns-in-Alone : goal.returns-in-Alone
returns-in-Alone c = search elsewhere_alone

pub returns-in-InBatch : goal.returns-in-InBatch
returns-in-InBatch c = search elsewhere_batch
