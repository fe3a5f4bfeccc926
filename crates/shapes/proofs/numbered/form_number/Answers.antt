-- `shapes::numbered::form_number` meets its contract.
use mathlib.Core.Path.{◌∙◌}
use Rattle.shapes.proofs.NumberRule.{field_at}
use Rattle.shapes.proofs.numbered.form_number.Goals as goal

pub returns : goal.returns
returns c = c.from-2.ensures ∙ field_at c.args.shape c.from.result c.from.ensures c.fields.result.now c.args.k c.fields.ensures.forms c.field_at.ensures
