-- One pass over the places of a table: each that is depository a's is stored anew, as a step makes it of the book as it
-- then is. What a step leaves free is out of the depository's list. Assumes nothing.
use Prim.Native.Nat.{ℕ, zero, suc}
use Rattle.std.specs.Prelude.{cond, List, eqb}
use Rattle.tables.specs.Table.{Table}

module _ {P R : Type 0} (t : Table P R) (a : ℕ) (step : List ℕ → P → P) where
  -- place i
  unfoldable pub sweep_at : List ℕ → ℕ → List ℕ
  sweep_at b i = cond (eqb (t.csd (t.at b i)) a) (t.put b i (step b (t.at b i))) b

  -- the places below n, one after the other
  unfoldable pub sweep_to : List ℕ → ℕ → List ℕ
  unfolding sweep_at
  sweep_to b zero = b
  sweep_to b (suc n) = sweep_at (sweep_to b n) n
