-- Free places, seen by their bytes. Assumes nothing.
use Rattle.std.specs.Prelude.{ℕ, ◌+◌, ◌*◌, ◌≤◌, ◌≡◌, Bool, true, List, eqb, get_or}
use Rattle.tables.specs.Count.{all_below}
use Rattle.chains.specs.Sizes.{block_places}

-- the n bytes from an index on are all 0
unfoldable pub zero_from : List ℕ → ℕ → ℕ → Bool
zero_from b from n = all_below (λ j. eqb (get_or b (from + j) 0) 0) n

-- the widths of places that are read by words: two, or four of more than 16 bytes
pub record Wide (width : ℕ) : Type 0 where
  pub least : 8 ≤ width
  pub most : width ≤ 32

-- of the block of places of a width from an index on, the first r are free
pub record FreeFirst (b : List ℕ) (from width r : ℕ) : Type 0 where
  pub few : r ≤ block_places
  pub free : zero_from b from (r * width) ≡ true
