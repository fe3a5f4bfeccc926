-- `edits::end_period` meets its contract. Assumes nothing.
use Rattle.std.proofs.Common.{rules}
use Rattle.places.specs.Layout.{period_places, period_at, put_period}
use Rattle.book.specs.Places.{period_place}
use Rattle.edits.specs.Edit.{period_ended, store_period, ended_period}
use Rattle.edits.proofs.Does.{changed_by}
use Rattle.edits.proofs.end_period.Goals as goal

pub returns : goal.returns
unfolding ended_period store_period period_place
returns c =
    rw (← c.from.ensures)
    (changed_by period_at put_period period_places _ _ c.args.b.now _ (period_ended c.args.p.last) c.change.ensures (λ x r e. search rules))
