-- `line::forms::field_value` meets its contract.
use mathlib.Core.Path.{sym, ◌∙◌}
use Rattle.meaning.specs.Forms.{read}
use Rattle.line.proofs.forms.field_value.Goals as goal

pub returns-then-is_empty : goal.returns-then-is_empty
unfolding read
returns-then-is_empty c = rw (c.in-Optional.is, sym c.is_empty.ensures ∙ c.if-is_empty.true)

pub returns-else-is_empty : goal.returns-else-is_empty
unfolding read
returns-else-is_empty c = rw (c.in-Optional.is, sym c.is_empty.ensures ∙ c.if-is_empty.false) c.plain_value-in-Optional.ensures
