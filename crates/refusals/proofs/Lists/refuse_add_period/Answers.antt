-- `refusals::Lists::refuse_add_period` meets its contract. Assumes nothing.
use Rattle.refusals.proofs.Refuse.{refused_add_period}
use Rattle.refusals.proofs.Lists.refuse_add_period.Goals as goal

pub returns : goal.returns
returns c = search refused_add_period
