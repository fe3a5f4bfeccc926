-- `records::is_row` meets its contract: by one law, so that another comparison is refused for certain. Assumes nothing.
use Rattle.records.proofs.Meets.{same_row}
use Rattle.records.proofs.is_row.Goals as goal

pub returns-then-of_rule : goal.returns-then-of_rule
returns-then-of_rule c = search same_row
