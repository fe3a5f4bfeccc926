-- `edits::change_each` meets its contract. Assumes nothing.
use mathlib.Core.Path.{◌≡◌, sym, ◌∙◌, subst}
use native.Mathlib.Omega.{arith}
use Rattle.edits.specs.Edit.{ChangedAt}
use Rattle.edits.proofs.Does.{each_none, each_more, changed_here, unchanged_here}
use Rattle.edits.proofs.change_each.Goals.{then-is_hit, else-is_hit}
use Rattle.edits.proofs.change_each.Goals as goal

pub loop-i-init : goal.loop-i-init
loop-i-init g c = (omega arith, each_none _ _ _ _ _ _ _)

pub loop-i-preserved : goal.loop-i-preserved
loop-i-preserved g c = (
  omega arith,
  each_more _ _ _ _ _ _ _ _ _ _ c.loop-i.invariant.1
      (elim c.if-is_hit.branch [
        | then-is_hit w ↦ changed_here _ _ _ _ _ _ _ _ _ _ _ _ c.is_hit.ensures w.if-is_hit.true w.record_at.ensures w.made-made.ensures (w.b-is ∙ w.put.ensures)
        | else-is_hit w ↦ subst (ChangedAt _ _ _ _ _ _ _ _) (sym w.b-is) (unchanged_here _ _ _ _ _ _ _ _ _ c.is_hit.ensures w.if-is_hit.false)
      ]),
)

pub returns : goal.returns
returns g c = let e : c.loop-i.i ≡ g.S.Record.Place.PLACES = omega arith in rw (← e) c.loop-i.invariant.1
