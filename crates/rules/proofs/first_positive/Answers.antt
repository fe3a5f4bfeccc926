-- `rules::first_positive` meets its contract. Assumes nothing.
use Rattle.std.proofs.Common.{sym, ◌∙◌}
use Rattle.rules.proofs.Turns.{hits, misses, passes, ended}
use Rattle.rules.proofs.first_positive.Goals as goal
use Rattle.rules.proofs.first_positive.Goals.{in-Some+else-may_decide, in_default}

pub returns-then-may_decide : goal.returns-then-may_decide
returns-then-may_decide c =
    hits c.args.rules.now c.loop-place.place-index c.loop-place-test.true c.in-Some.r c.in-Some.is
    (sym c.if-may_decide.ensures) ∙ c.loop-place.invariant

pub loop-place-preserved : goal.loop-place-preserved
loop-place-preserved c =
    elim c.match-place.branch [
      | in-Some+else-may_decide w ↦
          misses c.args.rules.now c.loop-place.place-index c.loop-place-test.true w.in-Some.r w.in-Some.is
          (sym w.if-may_decide.ensures) ∙ c.loop-place.invariant
      | in_default w ↦
          passes c.args.rules.now c.loop-place.place-index c.loop-place-test.true w.in_default.is ∙ c.loop-place.invariant
    ]

pub returns : goal.returns
returns c = ended c.args.rules.now c.loop-place.place-index c.loop-place-test.false ∙ c.loop-place.invariant
