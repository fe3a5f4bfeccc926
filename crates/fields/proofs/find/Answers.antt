-- `fields::find` meets its contract.
use Rattle.std.proofs.Common.{rules, arith}
use mathlib.Core.Path.{◌≡◌, ap, ◌∙◌}
use borrow.Author.Tests.{tests}
use Prim.Native.Nat.{◌+◌, ◌-◌}
use lib.Dec.{eqb}
use lib.ListN.{length, drop, length-drop}
use lib.Seq.{take_all}
use Rattle.std.proofs.lemmas.Iterator.{YieldsList-from_slice}
use Rattle.std.proofs.lemmas.Iterator.Search.{position_from_yields_List}
use Rattle.meaning.specs.Text.{place}
use Rattle.fields.proofs.Cutting.{position_place}
use Rattle.fields.proofs.find.Goals as goal

pub returns : goal.returns
returns c =
    let rest : c.in-Some.rest.now ≡ drop c.args.at c.args.s.now =
    c.in-Some.ensures.lookup.0.2
    ∙ take_all (length c.args.s.now - c.args.at) (drop c.args.at c.args.s.now) (omega (arith, length-drop c.args.at c.args.s.now)) in
    let found =
    position_from_yields_List (λ x. eqb x c.args.c) _ _ c.position.result c.position.ensures.ran
    (YieldsList-from_slice c.in-Some.rest.now c.iter.ensures.rest) (λ x b q k. search (rules, tests)) in
    ap (λ n. c.args.at + n) (c.unwrap_or.ensures ∙ position_place c.args.c c.in-Some.rest.now found ∙ ap (place c.args.c) rest)
