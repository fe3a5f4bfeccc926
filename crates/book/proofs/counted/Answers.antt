-- `book::counted` meets its contract. Assumes nothing.
use Prim.Native.Nat.{ℕ}
use mathlib.Core.Path.{◌≡◌, sym, ap, ◌∙◌}
use mathlib.Core.List.{List}
use Rattle.std.proofs.Common.{Bor}
use native.Mathlib.Omega.{arith}
use Rattle.tables.specs.Count.{count_below}
use Rattle.tables.specs.Table.{hit}
use Rattle.tables.proofs.Counts.{count_none}
use Rattle.owners.specs.declared.PlacesOf.{PlacesOf}
use Rattle.book.proofs.Place.{counted_turn, counted_end}
use Rattle.book.proofs.counted.Goals as goal

pub loop-k-init : goal.loop-k-init
loop-k-init g c =
    let e = c.into_iter-k-iterator.ensures.into_iter_gives in
    let f = c.places_of-k-items.ensures in
    let z : c.into_iter-k-iterator.result.i ≡ 0 = ap (λ (x : PlacesOf g.row.P.Denot). x.i) e ∙ f.2 in
    (tt, tt, ap (λ (x : PlacesOf g.row.P.Denot). x.b.now) e ∙ f.0, ap (λ (x : PlacesOf g.row.P.Denot). x.a) e ∙ f.1, omega arith, omega arith, sym (ap (count_below (hit g.P.Record.table c.args.b.now c.args.a (g.P.Record.asked c.args.q))) z ∙ count_none _))

pub loop-k-preserved : goal.loop-k-preserved
loop-k-preserved g c =
    let s = g.met.P.Record.stands in
    let v = c.loop-k.invariant in
    let e = rw c.in-Some.is at c.next.ensures.steps in
    let m = counted_turn g.P.Record.table _ _ s.2 s.3 c.args.b.now c.args.a (g.P.Record.asked c.args.q) _ _ _ _ _ s.0 v.2 v.3 v.4 v.6 _ _ _ e.0 c.from-n.ensures c.is_hit.ensures in
    (tt, tt, ap (λ (x : Bor (List ℕ)). x.now) e.1 ∙ v.2, e.2 ∙ v.3, omega (arith, m.0, e.3, s.0), omega (arith, m.1, e.3), m.2 ∙ ap (count_below (hit g.P.Record.table c.args.b.now c.args.a (g.P.Record.asked c.args.q))) (sym e.3))

pub returns : goal.returns
returns g c =
    let s = g.met.P.Record.stands in
    let v = c.loop-k.invariant in
    let e = rw c.in-None.is at c.next.ensures.steps in
    counted_end g.P.Record.table _ _ s.2 s.3 c.args.b.now c.args.a (g.P.Record.asked c.args.q) _ _ _ _ _ s.0 v.2 v.3 v.4 v.6 e.0
