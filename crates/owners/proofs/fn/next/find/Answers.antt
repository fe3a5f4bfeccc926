-- What the search of `owners::next` asks of a place: facts are named, so that a wrong one is refused for certain.
use Rattle.owners.proofs.Finding.{own_place}
use Rattle.owners.proofs.fn.next.find.Goals as goal

pub returns : goal.returns
returns g c = own_place _ _ _ _ _ _ _ c.byte_at.ensures c.address.ensures
