-- `fields::cut` meets its contract.
use Rattle.fields.proofs.Cutting.{cuts}
use Rattle.fields.proofs.cut.Goals as goal

pub returns : goal.returns
returns c = search cuts
