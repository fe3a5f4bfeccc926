-- `judge::Matched::verdict` meets its contract; facts are named, so that a wrong one is refused for certain.
use Rattle.std.proofs.Common.{sym, ◌∙◌}
use Rattle.judge.proofs.VerdictReturns.{verdict_rejected, verdict_accepted}
use Rattle.judge.proofs.Matched.verdict.Goals as goal

pub returns-then-is_some : goal.returns-then-is_some
returns-then-is_some c =
    verdict_rejected _ _ c.decided-rejection.result c.decided-rejection.ensures (sym c.is_some.ensures ∙ c.if-is_some.true)

pub returns : goal.returns
returns c =
    verdict_accepted _ _ c.decided-rejection.result c.decided-rejection.ensures _ _ (sym c.is_some.ensures ∙ c.if-is_some.false)
    c.decided.ensures c.decided-2.ensures
