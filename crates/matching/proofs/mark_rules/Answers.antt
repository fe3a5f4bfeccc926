-- `matching::mark_rules` meets its contract: named, so that rows of another depository are refused for certain.
use mathlib.Core.Path.{subst}
use lib.ListN.{length}
use Rattle.matching.specs.MatchedRows.{RowsMarked}
use Rattle.matching.proofs.mark_rules.Goals as goal

pub returns : goal.returns
returns c =
    subst (λ codes. RowsMarked (length c.args.t.now) c.args.b.now c.args.q codes c.run.new.t) c.codes_borne.ensures
    c.run.ensures
