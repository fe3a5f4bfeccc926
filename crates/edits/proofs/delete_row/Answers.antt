-- `edits::delete_row` meets its contract. Assumes nothing.
use Rattle.std.proofs.Common.{rules}
use Rattle.places.specs.Layout.{row_places, row_at, put_row, zero_row}
use Rattle.records.specs.Said.{row_of}
use Rattle.book.specs.Places.{row_place}
use Rattle.edits.specs.Edit.{store_row, deleted_row}
use Rattle.edits.proofs.Does.{changed_by}
use Rattle.edits.proofs.delete_row.Goals as goal

pub returns : goal.returns
unfolding deleted_row store_row row_place row_of
returns c =
    changed_by row_at put_row row_places _ _ c.args.b.now _ (λ x. zero_row) c.change.ensures (λ x r e. search rules)
