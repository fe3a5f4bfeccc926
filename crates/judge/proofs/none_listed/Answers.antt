-- `judge::none_listed` meets its contract. Assumes nothing.
use Rattle.std.proofs.Common.{refl}
use Rattle.judge.specs.Stages.{none_listed}
use Rattle.judge.proofs.none_listed.Goals as goal

pub returns : goal.returns
unfolding none_listed
returns c = refl
