-- `soundness::free::width_free` meets its contract. Assumes nothing.
use Rattle.soundness.proofs.FreeWords.{width_short, width_long}
use Rattle.soundness.proofs.free.width_free.Goals as goal

pub returns-then-n-le16 : goal.returns-then-n-le16
returns-then-n-le16 c = search width_short

pub returns : goal.returns
returns c = search width_long
