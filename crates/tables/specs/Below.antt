-- Folds over the places below n: whether one passes a test, and the least number of one. Assumes nothing.
use Rattle.std.specs.Prelude.{ℕ, zero, suc, Bool, false, ◌||◌}
use Rattle.tables.specs.Count.{lesser}

-- whether p holds at a place below n
unfoldable pub any_below : (ℕ → Bool) → ℕ → Bool
any_below p zero = false
any_below p (suc n) = p n || any_below p n

-- the least of f at the places below n, where 0 stands for none
unfoldable pub least_below : (ℕ → ℕ) → ℕ → ℕ
least_below f zero = 0
least_below f (suc n) = lesser (f n) (least_below f n)
