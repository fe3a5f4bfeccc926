-- Limits per key: at most m records of each. With m = 1 a key is held once.
use Prim.Native.Nat.{ℕ, ◌≤◌}
use mathlib.Core.Path.{◌≡◌}
use mathlib.Core.Bool.{Bool, true}
use mathlib.Core.List.{List}
use native.Mathlib.Omega.{arith}
use lib.Dec.{leb, ltb}
use borrow.Author.Tests.{leb-true, ltb-true, ltb-false}
use Rattle.tables.specs.Count.{count, every}
use Rattle.tables.proofs.Counts.{cases}
use Rattle.tables.proofs.Lists.{some_of}

-- ask κ tests for the key κ, and a record that passes has it.
module _ {R K : Type 0} (ask : K → R → Bool) (key : R → K) (hit : (κ : K) (r : R) → ask κ r ≡ true → κ ≡ key r) (m : ℕ) where
  -- A limit at the key of each record is one at every key.
  pub limit_all : (l : List R) → every (λ r. leb (count (ask (key r)) l) m) l ≡ true → (κ : K) → count (ask κ) l ≤ m
  limit_all l e κ =
      cases (ltb 0 (count (ask κ) l))
      (λ t.
      some_of (λ r. leb (count (ask (key r)) l) m) (ask κ) l e (ltb-true 0 (count (ask κ) l) t)
      (λ r f g. rw (hit κ r g) (leb-true (count (ask (key r)) l) m f)))
      (λ t. omega (arith, ltb-false 0 (count (ask κ) l) t))
