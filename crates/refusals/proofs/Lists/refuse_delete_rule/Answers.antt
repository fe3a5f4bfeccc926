-- `refusals::Lists::refuse_delete_rule` meets its contract. Assumes nothing.
use Rattle.refusals.proofs.Refuse.{refused_delete_rule}
use Rattle.refusals.proofs.Lists.refuse_delete_rule.Goals as goal

pub returns : goal.returns
returns c = search refused_delete_rule
