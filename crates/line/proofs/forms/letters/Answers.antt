-- `line::forms::letters` meets its contract.
use Rattle.std.proofs.Common.{rules}
use mathlib.Core.Path.{◌∙◌}
use borrow.Author.Tests.{tests}
use Rattle.std.proofs.lemmas.Iterator.{YieldsList-from_slice}
use Rattle.std.proofs.lemmas.Iterator.Search.{all_from_yields_List}
use Rattle.meaning.specs.Fields.{is_capital}
use Rattle.line.proofs.Loops.{every_all}
use Rattle.line.proofs.Capped.{other_length, right_length}
use Rattle.line.proofs.forms.letters.Goals as goal

pub returns-then-f-n : goal.returns-then-f-n
returns-then-f-n c = search other_length

pub returns : goal.returns
returns c =
    let f = c.args.f.now in
    let e =
    all_from_yields_List is_capital _ _ c.all.result c.all.ensures.ran (YieldsList-from_slice f c.iter.ensures.rest)
    (λ x b q k. search (rules, tests)) in
    right_length f c.args.n c.if-f-n.false (e ∙ every_all is_capital f) c.word.ensures c.then_some.ensures
