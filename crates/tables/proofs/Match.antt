-- What the last arm of a match on a number knows, whose other arms are 0 to k - 1.
use Prim.Native.Nat.{ℕ, zero, suc, ◌≤◌, zero-le}
use mathlib.Core.Path.{◌≡◌}
use native.Mathlib.Omega.{arith}

abbrev pub NoneBelow : ℕ → ℕ → Type 0
NoneBelow zero n = Unit {0}
NoneBelow (suc k) n = NoneBelow k n × (n ≡ k → ⊥)

pub past : (k n : ℕ) → NoneBelow k n → k ≤ n
past zero n r = zero-le
past (suc k) n r = omega (arith, past k n r.0, r.1)
