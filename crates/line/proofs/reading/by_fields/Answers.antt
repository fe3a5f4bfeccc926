-- `line::reading::by_fields` meets its contract.
use native.Mathlib.Omega.{arith}
use mathlib.Core.Path.{refl, ap, ◌≡◌, ◌∙◌}
use Rattle.std.specs.Prelude.{Some, None}
use borrow.Author.Tests.{ne_eqb}
use mathlib.Core.Bool.{and-false}
use mathlib.Core.Logic.{inl}
use Prim.Native.Nat.{◌≤◌}
use lib.ListN.{length, drop, length-drop}
use Rattle.fields.specs.Cut.{more}
use Rattle.meaning.specs.Text.{place}
use Rattle.std.proofs.lemmas.Iterator.Consumers.{count_from_yields_List, YieldsList-from_first}
use Rattle.fields.specs.Left.{fields_left}
use Rattle.line.proofs.Readings.{refused_by, miscounted, no_letter, some_letter, more_few}
use Rattle.line.proofs.reading.by_fields.Goals as goal
use Rattle.line.proofs.reading.by_fields.Goals.{then-comma-ne1-via-then-comma-ne1, then-comma-ne1-via-else-comma-ne1+then-not-has_letter}

pub returns-then-comma-ne1 : goal.returns-then-comma-ne1
returns-then-comma-ne1 c =
    let a : c.find-comma.result ≡ place 44 c.args.line.now = omega (arith, c.find-comma.ensures) in
    elim c.then-comma-ne1.branch [
      | then-comma-ne1-via-then-comma-ne1 w ↦ no_letter c.args.line.now a c.byte_at-letter.ensures refl (rw (ne_eqb c.find-comma.result 1 w.if-comma-ne1.true))
      | then-comma-ne1-via-else-comma-ne1+then-not-has_letter w ↦ no_letter c.args.line.now a c.byte_at-letter.ensures w.has_letter.ensures (rw (w.if-not-has_letter.true, and-false))
    ]

pub count-count-requires-clause-fits : goal.count-count-requires-clause-fits
count-count-requires-clause-fits c =
    let few : length (fields_left c.new.result) ≤ length c.new.result.line.now =
    omega (arith, more_few (drop c.new.result.at c.new.result.line.now), length-drop c.new.result.at c.new.result.line.now) in
    let same : length c.new.result.line.now ≡ length c.args.line.now = ap (λ x. length x.now) c.new.ensures.0 in
    inl (omega arith)

pub returns-in_err-shape : goal.returns-in_err-shape
returns-in_err-shape c =
    let a : c.find-comma.result ≡ place 44 c.args.line.now = omega (arith, c.find-comma.ensures) in
    let left : fields_left c.new.result ≡ more (drop c.find-comma.result c.args.line.now) = rw (c.new.ensures.0, c.new.ensures.1) in
    let many : c.count-count.result ≡ length (more (drop c.find-comma.result c.args.line.now)) =
    count_from_yields_List _ c.count-count.result c.count-count.ensures.ran (YieldsList-from_first (λ x. x.now) fields_left (more (drop c.find-comma.result c.args.line.now)) left) in
    let none = c.in_err-shape.ensures.ok_part in
    some_letter c.args.line.now a c.byte_at-letter.ensures c.has_letter.ensures None c.if-comma-ne1.false c.if-not-has_letter.false many (rw none at c.first_shape.ensures)
    (refused_by _ _ c.in_err-shape.ensures.value none c.from_residual.ensures.1 ∙ miscounted _)

pub returns : goal.returns
returns c =
    let a : c.find-comma.result ≡ place 44 c.args.line.now = omega (arith, c.find-comma.ensures) in
    let left : fields_left c.new.result ≡ more (drop c.find-comma.result c.args.line.now) = rw (c.new.ensures.0, c.new.ensures.1) in
    let many : c.count-count.result ≡ length (more (drop c.find-comma.result c.args.line.now)) =
    count_from_yields_List _ c.count-count.result c.count-count.ensures.ran (YieldsList-from_first (λ x. x.now) fields_left (more (drop c.find-comma.result c.args.line.now)) left) in
    some_letter c.args.line.now a c.byte_at-letter.ensures c.has_letter.ensures (Some c.in_ok-shape.shape) c.if-comma-ne1.false c.if-not-has_letter.false many (rw c.in_ok-shape.ensures.ok_part at c.first_shape.ensures) c.by_shape.ensures
