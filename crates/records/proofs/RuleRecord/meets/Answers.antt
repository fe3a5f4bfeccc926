-- `records::Rule::meets` meets its contract. Assumes nothing.
use Rattle.records.proofs.Meets.{rule_any, rule_named, rule_met}
use Rattle.records.proofs.RuleRecord.meets.Goals as goal

pub returns-in-Any : goal.returns-in-Any
returns-in-Any c = search rule_any

pub returns-in-Named : goal.returns-in-Named
returns-in-Named c = search rule_named

pub returns-in-Fills : goal.returns-in-Fills
returns-in-Fills c = search rule_met
