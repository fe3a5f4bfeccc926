-- `refusals::Lists::refuse_delete_row` meets its contract. Assumes nothing.
use Rattle.refusals.proofs.Refuse.{refused_delete_row}
use Rattle.refusals.proofs.Lists.refuse_delete_row.Goals as goal

pub returns : goal.returns
returns c = search refused_delete_row
