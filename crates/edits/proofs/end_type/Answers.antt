-- `edits::end_type` meets its contract. Assumes nothing.
use Rattle.std.proofs.Common.{rules}
use Rattle.places.specs.Layout.{type_places, type_at, put_type}
use Rattle.book.specs.Places.{type_place}
use Rattle.edits.specs.Edit.{type_ended, store_type, ended_type}
use Rattle.edits.proofs.Does.{changed_by}
use Rattle.edits.proofs.end_type.Goals as goal

pub returns : goal.returns
unfolding ended_type store_type type_place
returns c =
    changed_by type_at put_type type_places _ _ c.args.b.now _ (type_ended c.args.last) c.change.ensures (λ x r e. search rules)
