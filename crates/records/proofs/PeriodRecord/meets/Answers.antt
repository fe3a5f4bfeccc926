-- `records::Period::meets` meets its contract. Assumes nothing.
use Rattle.records.proofs.Meets.{period_any}
use Rattle.records.proofs.PeriodRecord.meets.Goals as goal

pub returns-in-Any : goal.returns-in-Any
returns-in-Any c = search period_any
