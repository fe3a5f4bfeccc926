-- `pending::release` meets its contract. Assumes nothing.
use Rattle.pending.specs.OnBytes.{released_at}
use Rattle.pending.proofs.Meets.{released_by, other_hold}
use Rattle.pending.proofs.release.Goals as goal

pub returns-in-2 : goal.returns-in-2
unfolding released_at
returns-in-2 c =
    let all = released_by c.args.k _ c.args.hold (rw c.in-2.is) in record { by_bytes = all.0; meant = all.1 }

pub returns-in-3 : goal.returns-in-3
unfolding released_at
returns-in-3 c =
    let all = released_by c.args.k _ c.args.hold (rw c.in-3.is) in record { by_bytes = all.0; meant = all.1 }

pub returns-in_default : goal.returns-in_default
returns-in_default c =
    let all = released_by c.args.k c.args.k c.args.hold (search other_hold) in record { by_bytes = all.0; meant = all.1 }
