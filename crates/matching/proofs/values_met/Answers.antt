-- `matching::values_met` meets its contract. Assumes nothing.
use Rattle.std.proofs.Common.{ℕ, Bool, ◌&&◌, get_or, ◌∙◌}
use Rattle.tables.specs.Count.{all_below}
use Rattle.marks.specs.Flags.{flagged}
use Rattle.matching.specs.MatchedRows.{kinds, tests, test_at, value_met, values_met}
use Rattle.matching.proofs.RowValues.{codes_asked, codes_unasked}
use Rattle.matching.proofs.values_met.Goals as goal

pub returns-then-own : goal.returns-then-own
unfolding all_below test_at values_met
returns-then-own c =
    let met : ℕ → Bool = λ i. value_met (tests c.args.q (flagged kinds c.args.codes.now)) i (get_or c.args.values i 0) in
    rw (c.is_borne.ensures, c.is_borne-then-own.ensures, c.is_borne-then-own-2.ensures)
    (codes_asked (met 0 && met 1 && met 2 && met 3 && met 4 && met 5) (met 9) (met 6) (met 7) (met 8)
    (rw (
      c.is_met.ensures,
      c.is_met-2.ensures,
      c.is_met-3.ensures,
      c.is_met-4.ensures,
      c.is_met-5.ensures,
      c.is_met-6.ensures,
      c.is_met-7.ensures,
    ) at c.if-own.true))

pub returns-else-own : goal.returns-else-own
unfolding all_below test_at values_met
returns-else-own c =
    let met : ℕ → Bool = λ i. value_met (tests c.args.q (flagged kinds c.args.codes.now)) i (get_or c.args.values i 0) in
    codes_unasked
    (c.is_met.result && c.is_met-2.result && c.is_met-3.result && c.is_met-4.result && c.is_met-5.result && c.is_met-6.result)
    c.is_met-7.result (met 6) (met 7) (met 8) c.if-own.false
    ∙ rw (
      c.is_met.ensures,
      c.is_met-2.ensures,
      c.is_met-3.ensures,
      c.is_met-4.ensures,
      c.is_met-5.ensures,
      c.is_met-6.ensures,
      c.is_met-7.ensures,
    )
