-- `starting::StartOfDay::made` meets its contract: named, so that another record is refused for certain.
use Rattle.starting.proofs.Started.{made_by}
use Rattle.starting.proofs.StartOfDayStep.made.Goals as goal

pub returns : goal.returns
returns c = made_by _ _ _ _ _ _ c.unwrap_or.ensures c.default.ensures c.start.ensures.by_bytes
