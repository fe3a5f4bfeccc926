-- `judge::judge_within` meets its contract; facts are named, so that a wrong one is refused for certain. Assumes
-- nothing.
use Rattle.judge.proofs.Judging.{by_scope}
use Rattle.judge.proofs.judge_within.Goals as goal

pub returns : goal.returns
returns c =
    let all =
    by_scope _ _ _ _ _ _ _ c.types_exempted.result
    c.types_exempted.ensures
    c.found.ensures
    c.signs-signs.ensures
    c.rules_within.ensures
    in record { by_bytes = all.0; exempts_by_bytes = all.1.0; meant = all.1.1.0; exempts_meant = all.1.1.1 }
