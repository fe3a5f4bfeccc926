-- `newrules::NewRules::entry` meets its contract; facts are named, so that a wrong one is refused for certain.
use Rattle.newrules.specs.NewRules.{new_matches}
use Rattle.newrules.proofs.NewRulesPass.entry.Goals as goal

pub returns : goal.returns
unfolding new_matches
returns c = rw (c.then_some.ensures, c.is_new.ensures, c.is_marked-matched.ensures, c.rule_key-k.ensures)
