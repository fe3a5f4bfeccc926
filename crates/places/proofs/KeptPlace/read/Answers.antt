-- `places::KeptPlace::read` meets its contract; the calls are named, so that a wrong reading is refused for certain.
-- Written by tools/places.py: change that, then run tools/generate.
use Rattle.places.proofs.KeptPlace.read.Goals as goal

pub returns : goal.returns
returns c = rw (c.byte.ensures, c.two.ensures, c.byte-2.ensures, c.one.ensures, c.one-2.ensures, c.one-3.ensures, c.four.ensures, c.three.ensures, c.three-2.ensures, c.three-3.ensures, c.three-4.ensures, c.four-2.ensures, c.four-3.ensures, c.remembered_at.ensures)
