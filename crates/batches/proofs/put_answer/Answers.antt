-- `batches::put_answer` meets its contract. Assumes nothing.
use Rattle.batches.proofs.Filling.{put}
use Rattle.batches.proofs.put_answer.Goals as goal

pub returns : goal.returns
returns c = let zeros = c.fill.ensures.after (λ y e. e) in search put
