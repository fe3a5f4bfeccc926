-- `records::RestrictionType::meets` meets its contract. Assumes nothing.
use Rattle.records.proofs.Meets.{type_any}
use Rattle.records.proofs.RestrictionTypeRecord.meets.Goals as goal

pub returns-in-Any : goal.returns-in-Any
returns-in-Any c = search type_any
