-- `records::Kept::meets` meets its contract. Assumes nothing.
use Rattle.records.proofs.Meets.{instruction_any, instruction_named}
use Rattle.records.proofs.KeptRecord.meets.Goals as goal

pub returns-in-Any : goal.returns-in-Any
returns-in-Any c = search instruction_any

pub returns-in-Named : goal.returns-in-Named
returns-in-Named c = search instruction_named
