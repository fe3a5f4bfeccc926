-- `newrules::types_begun` meets its contract. Assumes nothing.
use Rattle.std.proofs.Common.{refl}
use Rattle.tables.proofs.Keying.{keyed_marks}
use Rattle.places.specs.Layout.{type_places, type_at}
use Rattle.newrules.specs.NewRules.{begun_keys, first_key, has_begun, types_begun}
use Rattle.newrules.proofs.types_begun.Goals as goal

pub returns : goal.returns
unfolding types_begun
returns c =
    keyed_marks begun_keys _ c.args.q.csd (type_at c.args.b.now) (first_key c.args.q) (has_begun c.args.q) _ type_places
    type_places c.table.ensures refl
