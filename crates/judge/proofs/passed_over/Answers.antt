-- `judge::passed_over` meets its contract; facts are named, so that a wrong one is refused for certain.
use Rattle.judge.specs.Within.{type_passed}
use Rattle.judge.proofs.passed_over.Goals as goal

pub returns : goal.returns
unfolding type_passed
returns c = rw (c.is_marked.ensures, c.from.ensures)
