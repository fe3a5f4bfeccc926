-- `memory::with_types` meets its contract. Assumes nothing.
use Prim.Native.Nat.{◌≤◌, ◌-◌}
use mathlib.Core.Path.{◌≡◌}
use lib.ListN.{length}
use Rattle.tables.specs.Keyed.{marked}
use Rattle.memory.specs.Remembered.{with_types_to}
use Rattle.memory.proofs.with_types.Given as goal

abbrev pub invariant-loop-n : goal.invariant-loop-n
invariant-loop-n l = (1 ≤ l.n) × ((l.n ≤ 100) × ((length l.r ≡ 13) × (l.r ≡ with_types_to (l.n - 1) l.initial.r (marked l.marks))))
