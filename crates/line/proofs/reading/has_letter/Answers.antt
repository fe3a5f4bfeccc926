-- `line::reading::has_letter` meets its contract.
use Rattle.std.proofs.Common.{rules}
use mathlib.Core.Path.{◌∙◌}
use mathlib.Core.List.{[], ◌∷◌}
use borrow.Author.Tests.{tests}
use Rattle.std.proofs.lemmas.Iterator.{YieldsList-from_slice}
use Rattle.std.proofs.lemmas.Iterator.Search.{any_from_yields_List}
use Rattle.meaning.specs.Forms.{has_letter}
use Rattle.shapes.specs.Table.{row_of}
use Rattle.shapes.proofs.TableRule.{all_rows}
use Rattle.line.proofs.ShapeRows.{any_row}
use Rattle.line.proofs.reading.has_letter.Goals as goal

pub returns : goal.returns
returns c =
    let p = has_letter (c.args.letter ∷ []) in
    let e =
    any_from_yields_List (λ s. p (row_of s)) _ _ c.any.result c.any.ensures.ran (YieldsList-from_slice all_rows c.iter.ensures.rest)
    (λ x b q k. search (rules, tests)) in
    e ∙ any_row p
