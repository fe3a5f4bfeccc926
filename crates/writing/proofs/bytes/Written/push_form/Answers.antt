-- `writing::bytes::Written::push_form` meets its contract.
use mathlib.Core.Path.{ap, ◌∙◌}
use mathlib.Core.List.{◌∷◌}
use Rattle.meaning.specs.Writing.{write}
use Rattle.writing.specs.Written.{added_all}
use Rattle.writing.proofs.bytes.Written.push_form.Goals as goal

pub returns : goal.returns
returns c = c.push_field.ensures ∙ ap (λ φ. added_all c.args.self.now (44 ∷ write φ c.args.n)) c.from.ensures
