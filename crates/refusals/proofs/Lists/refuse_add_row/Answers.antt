-- `refusals::Lists::refuse_add_row` meets its contract. Assumes nothing.
use Rattle.refusals.proofs.Refuse.{refused_add_row}
use Rattle.refusals.proofs.Lists.refuse_add_row.Goals as goal

pub returns : goal.returns
returns c = search refused_add_row
