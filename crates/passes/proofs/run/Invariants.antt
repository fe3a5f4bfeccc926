-- `passes::run` meets its contract: the table is as the places before the iterator's leave it. Assumes nothing.
use Rattle.std.proofs.Common.{◌≡◌, ◌≤◌, length}
use Rattle.tables.specs.Keyed.{Keyed}
use Rattle.passes.proofs.run.Given as goal

abbrev pub invariant-loop-i : goal.invariant-loop-i
invariant-loop-i g l =
    (l.i-iterator.b.now ≡ l.b)
    × ((l.i-iterator.a ≡ l.a)
    × ((l.i-iterator.i ≤ g.S.Record.Place.PLACES)
    × Keyed (length l.fn.t) g.S.Record.Place.csd l.a (g.S.Record.Place.at l.b) (g.S.Pass.key l.asked) (g.S.Pass.on l.asked) (g.S.Pass.entry l.asked) l.t l.i-iterator.i))
