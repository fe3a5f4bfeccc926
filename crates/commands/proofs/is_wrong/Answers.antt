-- `commands::is_wrong` meets its contract. Assumes nothing.
use Rattle.commands.proofs.Decoded.{wrong_t, wrong_r, wrong_a, wrong_1, wrong_2, never_wrong}
use Rattle.commands.proofs.is_wrong.Goals as goal

pub returns-in-AddType : goal.returns-in-AddType
returns-in-AddType c = search wrong_t

pub returns-in-AddRule : goal.returns-in-AddRule
returns-in-AddRule c = search wrong_r

pub returns-in-AddPeriod : goal.returns-in-AddPeriod
returns-in-AddPeriod c = search wrong_a

pub returns-then-q-eq-INSTRUCTION : goal.returns-then-q-eq-INSTRUCTION
returns-then-q-eq-INSTRUCTION c = search wrong_1

pub returns-else-q-eq-INSTRUCTION : goal.returns-else-q-eq-INSTRUCTION
returns-else-q-eq-INSTRUCTION c = search wrong_2

pub returns-in-EndType : goal.returns-in-EndType
returns-in-EndType c = never_wrong c.args.c c.in-EndType.is
