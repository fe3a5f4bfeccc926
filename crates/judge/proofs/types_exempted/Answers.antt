-- `judge::types_exempted` meets its contract. Assumes nothing.
use Rattle.std.proofs.Common.{refl}
use Rattle.tables.specs.Keyed.{marked}
use Rattle.tables.proofs.Keying.{keyed_marks}
use Rattle.places.specs.Layout.{type_places, type_at}
use Rattle.judge.specs.Stages.{type_numbers, type_exempted, types_exempted}
use Rattle.judge.proofs.types_exempted.Goals as goal

pub returns : goal.returns
unfolding types_exempted
returns c =
    keyed_marks type_numbers _ _ (type_at c.args.b.now) (λ t. t.number) (type_exempted c.args.q (marked c.args.signs.now)) _
    type_places type_places c.table.ensures refl
