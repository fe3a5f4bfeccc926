-- `line::reading::read_values` meets its contract.
use native.Mathlib.Omega.{arith}
use mathlib.Core.Path.{refl, ◌∙◌, ◌≡◌}
use lib.ListN.{drop}
use Rattle.fields.specs.Cut.{more}
use Rattle.fields.specs.Left.{fields_left}
use Rattle.line.proofs.FieldNumbers.{row_start_lem, row_short, row_wrong, row_next, row_end, by_names, form_of, forms_long}
use Rattle.line.proofs.reading.read_values.Goals as goal

pub loop-k-init : goal.loop-k-init
loop-k-init c = row_start_lem _ _

pub returns-in_err-next : goal.returns-in_err-next
returns-in_err-next c =
    let left : fields_left c.new-reader.result ≡ more (drop c.args.comma c.args.line.now) = rw (c.new-reader.ensures.0, c.new-reader.ensures.1) in
    c.from_residual.ensures
    ∙ by_names c.fields-fields.ensures.forms left
    (row_short c.loop-k.invariant _ (omega (arith, forms_long c.fields-fields.result.now)) refl c.in_err-next.ensures.steps.0)

pub returns-in_err-values : goal.returns-in_err-values
returns-in_err-values c =
    let left : fields_left c.new-reader.result ≡ more (drop c.args.comma c.args.line.now) = rw (c.new-reader.ensures.0, c.new-reader.ensures.1) in
    let fields = c.fields-fields.result.now in
    c.from_residual-in_err-values.ensures
    ∙ by_names c.fields-fields.ensures.forms left
    (row_wrong c.loop-k.invariant _ (omega (arith, forms_long fields)) (form_of fields c.loop-k.k) c.in_ok-next.ensures.steps c.in_err-values.ensures)

pub loop-k-preserved : goal.loop-k-preserved
loop-k-preserved c =
    let fields = c.fields-fields.result.now in
    row_next c.loop-k.invariant _ (omega (arith, forms_long fields)) (form_of fields c.loop-k.k) c.in_ok-next.ensures.steps c.in_ok-values.ensures

pub returns : goal.returns
returns c =
    let left : fields_left c.new-reader.result ≡ more (drop c.args.comma c.args.line.now) = rw (c.new-reader.ensures.0, c.new-reader.ensures.1) in
    by_names c.fields-fields.ensures.forms left (row_end c.loop-k.invariant (omega (arith, forms_long c.fields-fields.result.now)))
