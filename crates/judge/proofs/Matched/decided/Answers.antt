-- `judge::Matched::decided` meets its contract; facts are named, so that a wrong one is refused for certain.
use Rattle.std.proofs.Common.{ap, ◌∙◌}
use Rattle.judge.specs.Stages.{first_rule}
use Rattle.judge.proofs.VerdictReturns.{decided_none, decided_some}
use Rattle.judge.proofs.Matched.decided.Goals as goal

pub returns-in_err-number : goal.returns-in_err-number
returns-in_err-number c = c.from_residual.ensures ∙ decided_none _ _ _ c.named_for.ensures c.in_err-number.was

pub returns : goal.returns
returns c =
    decided_some _ _ _ _ _ (c.unwrap_or.ensures ∙ c.first_rule.ensures ∙ ap first_rule c.rules_of-rules.ensures)
    c.named_for.ensures c.in_ok-number.was
