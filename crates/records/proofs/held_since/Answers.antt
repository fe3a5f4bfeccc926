-- `records::held_since` meets its contract. Assumes nothing.
use Rattle.records.specs.Said.{instruction_of}
use Rattle.records.proofs.Meets.{since_party, since_neither}
use Rattle.records.proofs.held_since.Goals as goal

pub returns-then-party : goal.returns-then-party
unfolding instruction_of
returns-then-party c = since_party (instruction_of c.args.t) c.args.hold c.if-validation.false c.if-party.true

pub returns-else-party : goal.returns-else-party
unfolding instruction_of
returns-else-party c = since_neither (instruction_of c.args.t) c.args.hold c.if-validation.false c.if-party.false
