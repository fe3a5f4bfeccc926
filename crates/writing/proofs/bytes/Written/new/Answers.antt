-- `writing::bytes::Written::new` meets its contract.
use mathlib.Core.Path.{refl}
use Rattle.writing.proofs.InSpace.{none_in}
use Rattle.writing.proofs.bytes.Written.new.Goals as goal

pub invariant_of-result : goal.invariant_of-result
invariant_of-result c = none_in

pub returns : goal.returns
returns c = refl
