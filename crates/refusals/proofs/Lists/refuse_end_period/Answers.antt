-- `refusals::Lists::refuse_end_period` meets its contract. Assumes nothing.
use Rattle.refusals.proofs.Refuse.{refused_end_period}
use Rattle.refusals.proofs.Lists.refuse_end_period.Goals as goal

pub returns : goal.returns
returns c = search refused_end_period
