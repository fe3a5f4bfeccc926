-- `records::first_difference` meets its contract. The invariant: the values passed agree. Assumes nothing.
use Prim.Native.Nat.{ℕ, ◌<◌, ◌≤◌, ◌-◌}
use mathlib.Core.Path.{◌≡◌}
use lib.ListN.{get_or}
use Rattle.records.proofs.first_difference.Given as goal

abbrev pub invariant-loop-i : goal.invariant-loop-i
invariant-loop-i l = (l.i ≤ 10) × ((k : ℕ) → k < l.i → get_or l.a k 0 ≡ get_or l.b k 0)

abbrev pub decreases-loop-i : goal.decreases-loop-i
decreases-loop-i l = 10 - l.i
