-- Numbers with zeros after them read as the numbers do.
use Prim.Native.Nat.{ℕ, zero, suc, ◌<◌}
use mathlib.Core.Path.{◌≡◌, refl}
use mathlib.Core.List.{List, [], ◌∷◌}
use native.Mathlib.Omega.{arith}
use lib.ListN.{get_or}
use Rattle.tables.specs.Padded.{padded}

pub padded_at : (n : ℕ) (ns : List ℕ) (i : ℕ) → i < n → get_or (padded n ns) i 0 ≡ get_or ns i 0
unfolding padded
padded_at zero ns i h = absurd (omega arith)
padded_at (suc n) [] zero h = refl
padded_at (suc n) [] (suc i) h = padded_at n [] i (omega arith)
padded_at (suc n) (x ∷ ns) zero h = refl
padded_at (suc n) (x ∷ ns) (suc i) h = padded_at n ns i (omega arith)
