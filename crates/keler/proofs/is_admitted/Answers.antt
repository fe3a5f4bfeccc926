-- `keler::is_admitted` meets its contract.
use Rattle.keler.specs.Step.{admitted}
use Rattle.keler.proofs.is_admitted.Goals as goal

pub returns : goal.returns
unfolding admitted
returns c =
    rw (c.is_number.ensures, c.is_csd.ensures, c.is_day.ensures, c.is_day-2.ensures, c.is_day-3.ensures)
