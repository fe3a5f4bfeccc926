-- `pending::start` meets its contract. Assumes nothing.
use Rattle.std.proofs.Common.{refl}
use Rattle.pending.proofs.Meets.{started_by_lem}
use Rattle.pending.proofs.start.Goals as goal

pub returns : goal.returns
returns c =
    let all =
    started_by_lem _ _ _ _ _ _ _ _ _
    c.after.ensures
    c.judge_within-found.ensures.by_bytes
    c.judge_within-found.ensures.exempts_by_bytes
    c.asking.ensures
    refl
    c.marks_of-passed.ensures
    in record { by_bytes = all.0; meant = all.1 }
