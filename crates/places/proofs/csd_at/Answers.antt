-- `places::csd_at` meets its contract: named, so that another byte is refused for certain.
use Rattle.places.proofs.Owner.{owner_at}
use Rattle.places.proofs.csd_at.Goals as goal

pub returns : goal.returns
returns g c = search (owner_at g.P.Place.csd g.P.Place.at g.P.Place.from g.P.Place.widths g.P.Place.START g.P.Place.WIDTH g.met.P.Place.reads g.met.P.Place.first)
