-- `newrules::is_new` meets its contract; facts are named, so that a wrong one is refused for certain.
use Rattle.newrules.specs.NewRules.{rule_new}
use Rattle.newrules.proofs.is_new.Goals as goal

pub returns : goal.returns
unfolding rule_new
returns c = rw (c.is_marked-on_the_day.ensures, c.begun_key.ensures, c.is_marked-before.ensures, c.begun_key-2.ensures)
