-- `shapes::numbered::form_count` meets its contract.
use mathlib.Core.Path.{refl}
use Rattle.shapes.proofs.NumberRule.{count_at}
use Rattle.shapes.proofs.numbered.form_count.Goals as goal

pub returns : goal.returns
returns c = count_at c.args.shape c.from.result c.from.ensures c.fields.result.now c.fields.ensures.forms c.fields.ensures.few refl
