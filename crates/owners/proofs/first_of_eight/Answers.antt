-- `owners::first_of_eight` meets its contract. Assumes nothing.
use Rattle.std.proofs.Common.{rules, arith, ℕ, ◌+◌, ◌*◌, ◌≡◌, ◌≤◌, Bool, true, false, eqb}
use borrow.Author.Tests.{tests}
use Rattle.std.proofs.lemmas.Iterator.{serves_from_Range, first_from_Range}
use Rattle.tables.specs.Bytes.{byte_at}
use Rattle.owners.proofs.Finding.{seven, found_from}
use Rattle.owners.proofs.first_of_eight.Goals as goal

pub find-requires-clause-callable : goal.find-requires-clause-callable
find-requires-clause-callable c =
    serves_from_Range (λ x q k. search rules)
    (λ x l h y e.
    let low : y.now * c.args.width ≤ 7 * c.args.width = seven y.now c.args.width (omega (arith, e, h)) in (
      λ v1 v2 v3 v4 v5 v6 v7 v8 v9. omega (arith, low),
      λ v1 v2 v3 v4 v5 v6 v7 v8 v9. omega (arith, low),
      λ v1 v2 v3 v4 v5 v6 v7 v8 v9 v10. omega (arith, low),
    ))

pub returns : goal.returns
returns c =
    let p : ℕ → Bool = λ j. eqb (byte_at c.args.b.now (c.args.at + j * c.args.width)) c.args.a in
    found_from p 0 8 c.find.result _ (first_from_Range _ _ _ c.find.result (λ x. p x ≡ true) (λ x. p x ≡ false) c.find.ensures.ran (λ x q k. search (rules, tests)) (λ x q k. search (rules, tests))) c.unwrap_or.ensures
