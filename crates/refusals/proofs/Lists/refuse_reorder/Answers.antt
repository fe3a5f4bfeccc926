-- `refusals::Lists::refuse_reorder` meets its contract. Assumes nothing.
use Rattle.refusals.proofs.Refuse.{refused_reorder}
use Rattle.refusals.proofs.Lists.refuse_reorder.Goals as goal

pub returns : goal.returns
returns c = search refused_reorder
