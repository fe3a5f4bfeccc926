-- `pending::enter` meets its contract. Assumes nothing.
use Rattle.std.proofs.Common.{refl}
use Rattle.pending.proofs.Meets.{entered_by_lem}
use Rattle.pending.proofs.enter.Goals as goal

pub returns : goal.returns
returns c =
    let all =
    entered_by_lem _ _ _ _ _ c.args.q _ _ _
    c.after.ensures
    c.fresh.ensures
    c.judge_within-found.ensures.by_bytes
    c.judge_within-found.ensures.exempts_by_bytes
    c.whole.ensures
    refl
    in record { by_bytes = all.0; meant = all.1 }
