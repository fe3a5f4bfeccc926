-- `judge::rules_listed` meets its contract. Assumes nothing.
use Rattle.std.proofs.Common.{arith}
use Rattle.judge.proofs.Listing.{listed_none}
use Rattle.judge.proofs.rules_listed.Goals as goal

pub loop-s-init : goal.loop-s-init
loop-s-init c = (omega arith, (omega arith, search listed_none))
