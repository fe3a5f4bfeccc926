-- `line::reading::by_shape` meets its contract.
use mathlib.Core.Path.{◌∙◌}
use Rattle.line.proofs.Readings.{refused_by, bad_field, good_fields}
use Rattle.line.proofs.reading.by_shape.Goals as goal

pub returns-in_err-values : goal.returns-in_err-values
returns-in_err-values c =
    let none = c.in_err-values.ensures.ok_part in
    refused_by _ _ c.in_err-values.ensures.value none c.from_residual.ensures.1 ∙ bad_field _ c.args.shape c.read_values.ensures none

pub returns : goal.returns
returns c = good_fields _ c.args.shape c.read_values.ensures c.in_ok-values.ensures.ok_part c.letter-letter.ensures
