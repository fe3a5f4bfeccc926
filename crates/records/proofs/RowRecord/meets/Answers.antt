-- `records::Row::meets` meets its contract. Assumes nothing.
use Rattle.records.proofs.Meets.{row_any}
use Rattle.records.proofs.RowRecord.meets.Goals as goal

pub returns-in-Any : goal.returns-in-Any
returns-in-Any c = search row_any
