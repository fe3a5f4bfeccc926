-- `places::Kept::new` meets its contract. An answer that the check finds alone too: it stays, so that an edit is
-- refused for what it says and not at a limit of the search.
use Rattle.std.proofs.Common.{refl}
use Rattle.places.proofs.Kept.new.Goals as goal

pub returns : goal.returns
returns c = refl
