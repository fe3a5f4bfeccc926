-- `keler::keler_line` meets its contract.
use Rattle.keler.proofs.Stepping.{numbered, ready, steps}
use Rattle.keler.proofs.keler_line.Goals as goal

pub overflow_sub-n : goal.overflow_sub-n
overflow_sub-n c = numbered _ _ _ _ _ _ c.refusal.ensures c.in_default.is

pub put-requires : goal.put-requires
put-requires c = ready _ _ _ _ _ _ c.refusal.ensures c.in_default.is c.set_line-line.ensures

pub returns : goal.returns
returns c = steps _ _ _ _ _ _ c.refusal.ensures c.in_default.is c.set_line-line.ensures c.put.ensures
