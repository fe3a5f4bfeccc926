-- `line::forms::one_of` meets its contract.
use Rattle.std.proofs.Common.{rules}
use mathlib.Core.Path.{◌∙◌}
use borrow.Author.Tests.{tests}
use lib.Dec.{eqb}
use Rattle.std.specs.Cmp.Lexicographic.{pointwise}
use Rattle.std.proofs.lemmas.Iterator.{YieldsList-from_slice}
use Rattle.std.proofs.lemmas.Iterator.Search.{position_from_yields_List}
use Rattle.line.proofs.Loops.{no_word, some_word}
use Rattle.line.proofs.forms.one_of.Goals as goal

pub returns-in_err-place : goal.returns-in_err-place
returns-in_err-place c =
    let found =
    position_from_yields_List (λ w. pointwise eqb c.args.f.now w.now) _ _ c.position.result c.position.ensures.ran
    (YieldsList-from_slice c.args.words.now c.iter.ensures.rest) (λ x b q k. search (rules, tests)) in
    c.from_residual.ensures ∙ no_word c.args.f.now c.args.words.now found c.in_err-place.was

pub returns : goal.returns
returns c =
    let found =
    position_from_yields_List (λ w. pointwise eqb c.args.f.now w.now) _ _ c.position.result c.position.ensures.ran
    (YieldsList-from_slice c.args.words.now c.iter.ensures.rest) (λ x b q k. search (rules, tests)) in
    some_word c.args.f.now c.args.words.now found c.in_ok-place.was
