-- `lines::has_room_for` meets its contract. Assumes nothing.
use Rattle.lines.proofs.Handing.{each_fits}
use Rattle.lines.proofs.has_room_for.Goals as goal

pub returns : goal.returns
returns c = search each_fits
