-- `line::forms::plain_value` meets its contract.
use mathlib.Core.Path.{ap, sym, ◌∙◌}
use Rattle.meaning.specs.Forms.{one_of, read}
use Rattle.shapes.proofs.Choices.{choice_form}
use Rattle.line.proofs.forms.plain_value.Goals as goal

pub returns-in-Sign : goal.returns-in-Sign
returns-in-Sign c =
    c.one_of.ensures
    ∙ ap (λ φ. read φ c.args.f.now) (ap one_of c.words.ensures.words ∙ sym (choice_form c.args.form c.in-Sign.is))
