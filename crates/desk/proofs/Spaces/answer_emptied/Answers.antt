-- `desk::Spaces::answer_emptied` meets its contract.
use Rattle.std.proofs.Common.{rules}
use Rattle.desk.proofs.Looping.{one_input}
use Rattle.desk.proofs.Spaces.answer_emptied.Goals as goal

pub returns : goal.returns
returns g c = one_input _ _ c.answer_all.result c.answer_all.ensures c.empty.ensures (search rules)
