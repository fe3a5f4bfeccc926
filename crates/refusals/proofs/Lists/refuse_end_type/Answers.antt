-- `refusals::Lists::refuse_end_type` meets its contract. Assumes nothing.
use Rattle.refusals.proofs.Refuse.{refused_end_type}
use Rattle.refusals.proofs.Lists.refuse_end_type.Goals as goal

pub returns : goal.returns
returns c = search refused_end_type
