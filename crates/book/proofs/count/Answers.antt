-- `book::count` meets its contract: of a book of its size, its first bytes up to that size are all.
use native.Mathlib.Omega.{arith}
use Rattle.std.proofs.lemmas.List.{take_all}
use Rattle.book.proofs.count.Goals as goal

pub slice_bounds-counted-end : goal.slice_bounds-counted-end
slice_bounds-counted-end g c = let e = c.if-b-eq-SIZE.true in rw (take_all 51200 c.args.b.now (omega (arith, e))) (omega (arith, e))

pub returns-then-b-eq-SIZE : goal.returns-then-b-eq-SIZE
returns-then-b-eq-SIZE g c =
    rw (take_all 51200 c.args.b.now (omega (arith, c.if-b-eq-SIZE.true))) at c.counted.ensures
