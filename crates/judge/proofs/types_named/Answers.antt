-- `judge::types_named` meets its contract. Assumes nothing.
use Rattle.std.proofs.Common.{refl}
use Rattle.tables.specs.Keyed.{marked}
use Rattle.tables.proofs.Keying.{keyed_leasts}
use Rattle.places.specs.Layout.{type_places, type_at}
use Rattle.judge.specs.Stages.{processings, type_applies, types_named}
use Rattle.judge.specs.Within.{type_passed}
use Rattle.judge.proofs.types_named.Goals as goal

pub returns : goal.returns
unfolding types_named
returns c =
    keyed_leasts processings _ _ (type_at c.args.b.now) (λ t. t.processing) (type_applies c.args.asked.now.q (type_passed c.args.asked.now.scope (marked c.args.asked.now.passed.now)) (marked c.args.asked.now.signs.now)) (λ t. t.number) _
    type_places type_places c.table.ensures refl
