-- `judge::rule_matches` meets its contract; facts are named, so that a wrong one is refused for certain.
use Rattle.judge.specs.Stages.{rule_matches}
use Rattle.judge.proofs.rule_matches.Goals as goal

pub returns : goal.returns
unfolding rule_matches
returns c = rw (c.covers-current.ensures, c.is_marked-matched.ensures, c.rule_key.ensures)
