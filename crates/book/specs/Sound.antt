-- When a lent book is sound (document 01, 'Records'): it has the exact size, every place is all zero or a depository's,
-- and each depository's lone book is sound. Assumes nothing.
use Rattle.std.specs.Prelude.{ℕ, ◌+◌, List, Bool, ◌&&◌, ◌||◌, eqb, length}
use Rattle.tables.specs.Count.{all_below}
use Rattle.meaning.specs.Fields.{within}
use Rattle.meaning.specs.Sound.{sound_lone}
use Rattle.places.specs.Layout.{book_size}
use Rattle.records.specs.Tables.{TableName, table, every_table}
use Rattle.book.specs.Lone.{lone_book}

-- the places below n are each free or of a depository, 1 to 8
unfoldable pub placed : {P : Type 0} → (P → ℕ) → (P → Bool) → (ℕ → P) → ℕ → Bool
placed csd free at n = all_below (λ k. free (at k) || within 1 8 (csd (at k))) n

-- those of a table
abbrev pub placed_in : List ℕ → TableName → Bool
placed_in b k = placed (table k).csd (table k).free ((table k).at b) (table k).places

unfoldable pub all_placed : List ℕ → Bool
all_placed b = every_table (placed_in b)

unfoldable pub sound : List ℕ → Bool
sound b = eqb (length b) book_size && (all_placed b && all_below (λ a. sound_lone (lone_book (a + 1) b)) 8)
