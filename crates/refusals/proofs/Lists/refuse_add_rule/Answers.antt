-- `refusals::Lists::refuse_add_rule` meets its contract. Assumes nothing.
use Rattle.refusals.proofs.Refuse.{refused_add_rule}
use Rattle.refusals.proofs.Lists.refuse_add_rule.Goals as goal

pub returns : goal.returns
returns c = search refused_add_rule
