-- `records::belongs` meets its contract. Assumes nothing.
use mathlib.Core.Path.{ap}
use lib.Dec.{eqb}
use Rattle.records.specs.Criteria.{belongs}
use Rattle.records.proofs.Filled.{belongs_shift, belongs_none}
use Rattle.records.proofs.belongs.Goals as goal

pub returns-then-i-lt32 : goal.returns-then-i-lt32
unfolding belongs
returns-then-i-lt32 c = ap (λ x. eqb x 1) (belongs_shift c.args.criteria c.args.i)

pub returns-else-i-lt32 : goal.returns-else-i-lt32
unfolding belongs
returns-else-i-lt32 c = belongs_none c.args.criteria c.args.i c.ranges.criteria.fits c.if-i-lt32.false
