-- `text::printing::push_deciding` meets its contract.
use Rattle.text.proofs.Printings.{deciding_few}
use Rattle.text.proofs.printing.push_deciding.Goals as goal

pub returns-clause-few : goal.returns-clause-few
returns-clause-few c = search deciding_few
