-- `soundness::lone` meets its contract. Assumes nothing.
use Rattle.soundness.proofs.KindReturns.{lone_unfit, lone_fit}
use Rattle.soundness.proofs.lone.Goals as goal

pub returns-then-not-fits : goal.returns-then-not-fits
returns-then-not-fits g c = search lone_unfit

pub returns : goal.returns
returns g c = search lone_fit
