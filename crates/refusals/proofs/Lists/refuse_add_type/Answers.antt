-- `refusals::Lists::refuse_add_type` meets its contract. Assumes nothing.
use Rattle.refusals.proofs.Refuse.{refused_add_type}
use Rattle.refusals.proofs.Lists.refuse_add_type.Goals as goal

pub returns : goal.returns
returns c = search refused_add_type
