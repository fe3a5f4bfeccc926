-- `pending::after` meets its contract; facts are named, so that a wrong one is refused for certain. Assumes nothing.
use Rattle.pending.proofs.Meets.{after_rejected, after_kept}
use Rattle.pending.proofs.after.Goals as goal

pub returns-then-is_some : goal.returns-then-is_some
returns-then-is_some c =
    after_rejected c.args.k c.args.day _ _ c.args.found.verdict c.args.found.exempted _ _
    c.with_types-remembered.ensures
    c.since-holding.ensures
    c.since-validating.ensures
    c.is_some.ensures
    c.if-is_some.true

pub returns : goal.returns
returns c =
    after_kept c.args.k c.args.day _ _ c.args.found.verdict c.args.found.exempted _ _
    c.with_types-remembered.ensures
    c.since-holding.ensures
    c.since-validating.ensures
    c.is_some.ensures
    c.if-is_some.false
