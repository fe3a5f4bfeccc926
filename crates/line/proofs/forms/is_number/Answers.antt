-- `line::forms::is_number` meets its contract.
use Rattle.std.proofs.Common.{rules}
use mathlib.Core.Path.{◌∙◌}
use borrow.Author.Tests.{tests}
use Rattle.std.proofs.lemmas.Iterator.{YieldsList-from_slice}
use Rattle.std.proofs.lemmas.Iterator.Search.{all_from_yields_List}
use Rattle.meaning.specs.Fields.{is_digit}
use Rattle.line.proofs.Loops.{every_all, all_digits, other_bytes}
use Rattle.line.proofs.forms.is_number.Goals as goal

pub returns-then-all : goal.returns-then-all
returns-then-all c =
    let f = c.args.f.now in
    let e =
    all_from_yields_List is_digit _ _ c.all.result c.all.ensures.ran (YieldsList-from_slice f c.iter.ensures.rest)
    (λ x b q k. search (rules, tests)) in
    all_digits f (e ∙ every_all is_digit f) c.if-all.true c.byte_at.ensures

pub returns-else-all : goal.returns-else-all
returns-else-all c =
    let f = c.args.f.now in
    let e =
    all_from_yields_List is_digit _ _ c.all.result c.all.ensures.ran (YieldsList-from_slice f c.iter.ensures.rest)
    (λ x b q k. search (rules, tests)) in
    other_bytes f (e ∙ every_all is_digit f) c.if-all.false
