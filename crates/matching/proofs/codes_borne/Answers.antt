-- `matching::codes_borne` meets its contract. Assumes nothing.
use Rattle.std.proofs.Common.{arith, refl}
use Rattle.places.specs.Layout.{period_places, period_at}
use Rattle.marks.proofs.Flagging.{keyed_flags}
use Rattle.passes.proofs.Passing.{keyed_of}
use Rattle.matching.specs.MatchedRows.{code_keys, code_entries, period_key, borne_by, codes_borne}
use Rattle.matching.proofs.codes_borne.Goals as goal

pub returns : goal.returns
unfolding codes_borne
returns c =
    keyed_flags 4 code_entries _ c.args.q.csd (period_at c.args.b.now) period_key (borne_by c.args.q) (omega arith) _
    period_places period_places code_keys (keyed_of _ code_entries c.requires c.run.ensures) refl refl
