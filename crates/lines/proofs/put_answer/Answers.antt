-- `lines::put_answer` meets its contract. Assumes nothing.
use Rattle.lines.proofs.Turning.{put}
use Rattle.lines.proofs.put_answer.Goals as goal

pub returns : goal.returns
returns c = search put
