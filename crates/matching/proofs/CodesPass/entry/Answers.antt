-- `matching::Codes::entry` meets its contract; facts are named, so that a wrong one is refused for certain.
use Rattle.std.proofs.Common.{◌≡◌, rules}
use Rattle.matching.specs.MatchedRows.{borne_by}
use Rattle.matching.proofs.CodesPass.entry.Goals as goal
use Rattle.matching.proofs.CodesPass.entry.Goals.{then-p-sought, else-p-sought}

pub returns : goal.returns
unfolding borne_by
returns c =
    let borne : c.if-p-sought.borne ≡ borne_by c.args.self.now.q c.args.p =
    elim c.if-p-sought.branch [ then-p-sought w ↦ search rules | else-p-sought w ↦ search rules ] in
    rw (c.then_some.ensures, borne, c.with_flag.ensures, c.byte_at.ensures, c.key-k.ensures)
