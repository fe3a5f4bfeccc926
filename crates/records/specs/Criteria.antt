-- Criteria as the sum of their weights, and the values that a row fills (document 01, 'Lines' and 'Records'). Assumes
-- nothing.
use Rattle.std.specs.Prelude.{ℕ, ◌/◌, ◌%◌, ◌^◌, Bool, List, eqb, ltb, get_or}
use Rattle.tables.specs.Count.{bit, count}

-- criterion i, whose weight is 2 ^ i, belongs to the criteria
unfoldable pub belongs : ℕ → ℕ → Bool
belongs criteria i = eqb (criteria / 2 ^ i % 2) 1

-- criterion i belongs to the criteria exactly if value i is filled
unfoldable pub agrees : ℕ → List ℕ → ℕ → Bool
unfolding belongs
agrees criteria v i = eqb (bit (belongs criteria i)) (bit (ltb 0 (get_or v i 0)))

-- how many values are filled
unfoldable pub filled_count : List ℕ → ℕ
unfolding count
filled_count v = count (ltb 0) v
