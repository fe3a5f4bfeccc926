-- `soundness::free::free_first` meets its contract. Assumes nothing.
use Rattle.soundness.proofs.FreeWords.{first_none}
use Rattle.soundness.proofs.free.free_first.Goals as goal

pub returns-then-one-ne0 : goal.returns-then-one-ne0
returns-then-one-ne0 c = search first_none
