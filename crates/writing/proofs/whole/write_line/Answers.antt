-- `writing::whole::write_line` meets its contract.
use mathlib.Core.Path.{ap, ◌≡◌, ◌∙◌}
use mathlib.Core.Logic.{◌⊎◌, inl, inr}
use lib.ListN.{length}
use Rattle.writing.proofs.LineTexts.{fields_next, fields_end, line_written}
use Rattle.writing.proofs.whole.write_line.Goals as goal

pub loop-field-preserved : goal.loop-field-preserved
loop-field-preserved c = fields_next _ _ c.loop-field.invariant c.in-Some.ensures.steps.0 c.in-Some.ensures.steps.1 c.push_field.ensures

pub returns : goal.returns
returns c =
    let came = c.into_iter-field-iterator.ensures.into_iter_gives in
    let fields : c.into_iter-field-iterator.result.a.rest.now ≡ c.fields-fields.result.now =
    ap (λ s. s.a.rest.now) came ∙ ap (λ s. s.rest.now) c.zip-field-items.ensures.first ∙ c.iter.ensures.rest in
    let numbers : c.into_iter-field-iterator.result.b.rest.now ≡ c.args.numbers.now =
    ap (λ s. s.b.rest.now) came ∙ c.zip-field-items.ensures.second.0 in
    let ended : (length c.loop-field.field-iterator.a.rest.now ≡ 0) ⊎ (length c.loop-field.field-iterator.b.rest.now ≡ 0) =
    elim c.in-None.ensures.steps [ inl s ↦ inl s.1.0 | inr s ↦ inr s.1.0 ] in
    line_written c.args.shape c.fields-fields.result.now c.args.numbers.now c.push.new.self
    (rw (fields, numbers) at (fields_end c.loop-field.invariant ended)) c.fields-fields.ensures.forms c.push.ensures c.letter.ensures c.new-line.ensures
