-- `keler::set::set_line` meets its contract.
use Rattle.keler.proofs.SetLines.{a_type, a_rule, a_row, none}
use Rattle.keler.proofs.set.set_line.Goals as goal

pub returns-then-n-lt-TYPES : goal.returns-then-n-lt-TYPES
returns-then-n-lt-TYPES c = a_type _ _ _ _ c.args.n c.type_line.ensures c.if-n-lt-TYPES.true

pub returns-then-rule-lt-RULES : goal.returns-then-rule-lt-RULES
returns-then-rule-lt-RULES c = a_rule _ _ _ _ c.args.n c.rule_line.ensures c.if-rule-lt-RULES.true c.if-n-lt-TYPES.false

pub returns-then-row-lt-ROWS : goal.returns-then-row-lt-ROWS
returns-then-row-lt-ROWS c = a_row _ _ _ _ c.args.n c.row_line.ensures c.if-row-lt-ROWS.true c.if-rule-lt-RULES.false

pub returns : goal.returns
returns c = none c.args.set.csd c.args.set.day c.args.set.first c.args.set.last c.args.n c.new.ensures c.if-row-lt-ROWS.false
