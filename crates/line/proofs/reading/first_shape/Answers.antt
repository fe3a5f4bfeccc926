-- `line::reading::first_shape` meets its contract.
use Rattle.std.proofs.Common.{rules}
use mathlib.Core.Path.{ap, ◌∙◌}
use borrow.Author.Tests.{tests}
use Rattle.std.specs.Option.{option_map}
use Rattle.std.proofs.lemmas.Iterator.{YieldsList-from_slice}
use Rattle.std.proofs.lemmas.Iterator.Search.{find_from_yields_List}
use Rattle.shapes.specs.Table.{row_of}
use Rattle.shapes.proofs.TableRule.{all_rows}
use Rattle.line.specs.Line.{as_shape}
use Rattle.line.proofs.ShapeRows.{first_row}
use Rattle.line.proofs.reading.first_shape.Goals as goal

pub returns : goal.returns
returns c =
    let p = as_shape c.args.letter c.args.count in
    let e =
    find_from_yields_List (λ s. p (row_of s)) _ _ c.find.result c.find.ensures.ran (YieldsList-from_slice all_rows c.iter.ensures.rest)
    (λ x b q k. search (rules, tests)) in
    ap (option_map row_of) (c.copied.ensures ∙ e) ∙ first_row p
