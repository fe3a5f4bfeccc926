-- `book::counted` meets its contract: the places before the iterator's are counted. Assumes nothing.
use Prim.Native.Nat.{◌≤◌}
use mathlib.Core.Path.{◌≡◌}
use Rattle.tables.specs.Count.{count_below}
use Rattle.tables.specs.Table.{hit}
use Rattle.book.proofs.counted.Given as goal

abbrev pub invariant-loop-k : goal.invariant-loop-k
invariant-loop-k g l =
    let t = g.P.Record.table in
    let s = l.k-iterator in
    (goal.iterator-loop-k g).can_next s × (goal.iterator-loop-k g).is_finite s
    × (s.b.now ≡ l.b) × (s.a ≡ l.a) × (s.i ≤ t.places) × (l.n ≤ s.i)
    × (l.n ≡ count_below (hit t l.b l.a (g.P.Record.asked l.q)) s.i)
