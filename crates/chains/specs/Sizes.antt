-- How large the tables of chains are.
use Rattle.std.specs.Prelude.{ℕ}

-- whose a place can be: the depositories 1 to 8, and 0 of a free place
abbrev pub owners : ℕ
owners = 9

-- how many chains a table has: one to a bucket
abbrev pub buckets : ℕ
buckets = 2048

-- the most places that a table has
abbrev pub most_places : ℕ
most_places = 1024

-- how many places are seen at once to be free
abbrev pub block_places : ℕ
block_places = 32
