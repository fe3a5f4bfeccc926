-- `edits::change_each` meets its contract. The invariant: the places passed are changed. Assumes nothing.
use Prim.Native.Nat.{◌≤◌, ◌-◌}
use mathlib.Core.Path.{◌≡◌}
use Rattle.edits.specs.Edit.{ChangedEach}
use Rattle.edits.proofs.change_each.Given as goal

abbrev pub invariant-loop-i : goal.invariant-loop-i
invariant-loop-i g l =
    (l.i ≤ g.S.Record.Place.PLACES)
    × ChangedEach g.S.Record.Record.table g.S.Record.Place.at g.S.Record.Store.put l.csd (g.S.Record.Record.asked l.q) (λ x r y. y ≡ g.S.Step.made l.step x r) l.initial.b l.i l.b

abbrev pub decreases-loop-i : goal.decreases-loop-i
decreases-loop-i g l = g.S.Record.Place.PLACES - l.i
