-- `batches::has_room` meets its contract. Assumes nothing. Written out, so that another number is refused for certain.
use borrow.Author.Tests.{le-leb, lt-leb}
use native.Mathlib.Omega.{arith}
use Rattle.meaning.specs.Batch.{fits}
use Rattle.batches.proofs.has_room.Goals as goal

pub returns-then-n-le-MOST : goal.returns-then-n-le-MOST
unfolding fits
returns-then-n-le-MOST c = rw (le-leb c.args.n 64 c.if-n-le-MOST.true)

pub returns-else-n-le-MOST : goal.returns-else-n-le-MOST
unfolding fits
returns-else-n-le-MOST c = rw (lt-leb c.args.n 64 (omega arith))
