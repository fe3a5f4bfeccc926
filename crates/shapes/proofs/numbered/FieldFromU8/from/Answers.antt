-- `shapes::numbered::FieldFromU8::from` meets its contract.
use Rattle.shapes.proofs.NumberRule.{filled_at, optional_at}
use Rattle.shapes.proofs.numbered.FieldFromU8.from.Goals as goal

pub returns-then-n-lt-OPTIONAL : goal.returns-then-n-lt-OPTIONAL
returns-then-n-lt-OPTIONAL c = filled_at c.args.n c.if-n-lt-OPTIONAL.true c.form_named.ensures

pub returns-else-n-lt-OPTIONAL : goal.returns-else-n-lt-OPTIONAL
returns-else-n-lt-OPTIONAL c = optional_at c.args.n c.if-n-lt-OPTIONAL.false c.form_named-else-n-lt-OPTIONAL.ensures
