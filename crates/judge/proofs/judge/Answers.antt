-- `judge::judge` meets its contract; facts are named, so that a wrong one is refused for certain. Assumes nothing.
use Rattle.std.proofs.Common.{refl}
use Rattle.matching.specs.MatchedRows.{rule_keys}
use Rattle.passes.proofs.Passing.{keyed_of}
use Rattle.judge.proofs.Judging.{by_stages}
use Rattle.judge.proofs.judge.Goals as goal

pub returns : goal.returns
returns c =
    let both =
    by_stages _ _ _ _ _ _ _
    c.found.ensures
    c.whole.ensures
    refl
    c.signs-signs.ensures
    (keyed_of _ rule_keys c.blank-rows.ensures.long c.mark_rules.ensures)
    in record { by_bytes = both.0; meant = both.1 }
