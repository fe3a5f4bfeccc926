-- `memory::marks_of` meets its contract; facts are named, so that a wrong one is refused for certain.
use Rattle.std.proofs.Common.{◌≡◌, sym, refl, ◌∙◌, Bool, true, false, cond, ℕ, ◌≤◌, ◌+◌, arith, set}
use Rattle.memory.specs.Remembered.{bit_of, MarksTo}
use Rattle.memory.proofs.Bits.{marks_more, marks_end}
use Rattle.memory.proofs.marks_of.Goals as goal
use Rattle.memory.proofs.marks_of.Goals.{then-is_remembered, else-is_remembered}

pub loop-n-preserved : goal.loop-n-preserved
loop-n-preserved c =
    elim c.if-is_remembered.branch [
      | then-is_remembered w ↦ step true _ (w.marks-is ∙ w.store.ensures) w.from.ensures (sym w.if-is_remembered.true ∙ c.is_remembered.ensures)
      | else-is_remembered w ↦ step false c.loop-n.n w.marks-is refl (sym w.if-is_remembered.false ∙ c.is_remembered.ensures)
    ]
  where
    step : (on : Bool) (k : ℕ) → c.if-is_remembered.marks ≡ cond on (set c.loop-n.marks k 1) c.loop-n.marks → k ≡ c.loop-n.n
        → on ≡ bit_of c.args.m c.loop-n.n
        → (c.loop-n.n + 1 ≤ 100) × MarksTo c.args.m c.if-is_remembered.marks (c.loop-n.n + 1)
    step on k e s o = (omega arith, marks_more _ _ _ _ k on c.loop-n.invariant.1 e s o (omega arith))

pub returns : goal.returns
returns c = search marks_end
