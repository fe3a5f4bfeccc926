-- `judge::TypeRules::entry` meets its contract; facts are named, so that a wrong one is refused for certain.
use Rattle.judge.specs.Stages.{rule_of_type}
use Rattle.judge.proofs.TypeRulesPass.entry.Goals as goal

pub returns : goal.returns
unfolding rule_of_type
returns c = rw (c.then_some.ensures, c.rule_matches.ensures, c.signed_key.ensures)
