-- `memory::with_types` meets its contract; facts are named, so that a wrong one is refused for certain.
use Rattle.std.proofs.Common.{◌≡◌, ap, sym, ◌∙◌, rules, Bool, true, false, cond, ◌≤◌, ◌+◌, ◌-◌, ◌/◌, ◌%◌, arith, length, get_or, set}
use Rattle.tables.specs.Keyed.{marked}
use Rattle.marks.specs.Flags.{with_flag}
use Rattle.memory.specs.Remembered.{with_types_to}
use Rattle.memory.proofs.Bits.{types_none, long_cond, types_more, types_end}
use Rattle.memory.proofs.with_types.Goals as goal
use Rattle.memory.proofs.with_types.Goals.{then-is_marked, else-is_marked}

pub loop-n-init : goal.loop-n-init
loop-n-init c = (omega arith, (omega arith, (search rules, search types_none)))

pub loop-n-preserved : goal.loop-n-preserved
loop-n-preserved c =
    elim c.if-is_marked.branch [
      | then-is_marked w ↦ step true (w.r-is ∙ w.store_flag.ensures) (sym w.if-is_marked.true ∙ c.is_marked.ensures)
      | else-is_marked w ↦ step false w.r-is (sym w.if-is_marked.false ∙ c.is_marked.ensures)
    ]
  where
    step : (on : Bool) → c.if-is_marked.r ≡ cond on (set c.loop-n.r (c.from-k.result / 8) (with_flag (c.from-k.result % 8) (get_or c.loop-n.r (c.from-k.result / 8) 0))) c.loop-n.r
        → on ≡ marked c.args.marks c.from-k.result
        → (1 ≤ c.loop-n.n + 1) × ((c.loop-n.n + 1 ≤ 100) × ((length c.if-is_marked.r ≡ 13) × (c.if-is_marked.r ≡ with_types_to (c.loop-n.n + 1 - 1) c.args.m (marked c.args.marks))))
    step on e o = (
      omega arith,
      (
        omega arith,
        (
          ap length e ∙ long_cond on c.loop-n.r _ _ ∙ c.loop-n.invariant.1.1.0,
          types_more _ _ _ _ _ _ on e o c.from-k.ensures c.loop-n.invariant.1.1.1 c.loop-n.invariant.0,
        ),
      ),
    )

pub returns : goal.returns
returns c = let s : c.loop-n.n ≡ 100 = omega arith in types_end _ _ _ _ c.loop-n.invariant.1.1.1 s
