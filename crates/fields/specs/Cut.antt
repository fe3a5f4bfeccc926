-- The field of a line that begins at an index, and the fields after a comma. Assumes nothing.
use Rattle.std.specs.Prelude.{ℕ, ◌+◌, ◌-◌, ◌≤◌, ◌≡◌, List, [], ◌∷◌, length, take, drop}
use Rattle.meaning.specs.Text.{place}
use Rattle.meaning.specs.Fields.{fields}

-- the fields after a comma, which is the first byte; none where the line has ended
unfoldable pub more : List ℕ → List (List ℕ)
unfolding fields
more [] = []
more (c ∷ cs) = fields cs

-- where the field that begins at an index ends: at the first comma, or at the line's end
abbrev pub field_end : List ℕ → ℕ → ℕ
field_end line at = at + place 44 (drop at line)

-- the field that begins at an index ends at r, and what that is to the meaning's fields
pub record Cuts (line : List ℕ) (at r : ℕ) : Type 0 where
  pub whole : r ≡ field_end line at
  -- the fields from there on are this one and those after the comma
  pub field : fields (drop at line) ≡ take (r - at) (drop at line) ∷ more (drop r line)
  pub from : at ≤ r
  pub inside : at ≤ length line → r ≤ length line
