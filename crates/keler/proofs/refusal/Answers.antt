-- `keler::refusal` meets its contract.
use Rattle.keler.proofs.Stepping.{not_admitted, too_early, not_refused}
use Rattle.keler.proofs.refusal.Goals as goal

pub returns-then-not-is_admitted : goal.returns-then-not-is_admitted
returns-then-not-is_admitted c = not_admitted _ _ _ _ _ _ c.is_admitted.ensures c.if-not-is_admitted.true

pub returns-then-set : goal.returns-then-set
returns-then-set c = too_early _ _ _ _ _ _ c.is_admitted.ensures c.if-not-is_admitted.false c.if-set.true

pub returns : goal.returns
returns c = not_refused _ _ _ _ _ _ c.is_admitted.ensures c.if-not-is_admitted.false c.if-set.false
