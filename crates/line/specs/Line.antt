-- A line of the code as the meaning reads it. Assumes nothing.
use Rattle.std.specs.Prelude.{ℕ, Bool, ◌&&◌, List, [], ◌∷◌, Option, Some, None, Result, Ok, Err}
use Rattle.tables.specs.Padded.{padded}
use Rattle.meaning.specs.Forms.{Shape, has_letter, has_length, letter_byte}
use Rattle.meaning.specs.Reading.{Reading, refused, asks}
use Rattle.meaning.specs.declared.Refusal.{Refusal}
use Rattle.line.specs.declared.reading.Line.{Line}

-- whether a row has that letter and that many fields
abbrev pub as_shape : ℕ → ℕ → Shape → Bool
as_shape c n s = has_letter (c ∷ []) s && has_length n s

-- the numbers of a line's fields in a row of sixteen
unfoldable pub in_row : Option (List ℕ) → Option (List ℕ)
unfolding padded
in_row None = None
in_row (Some ns) = Some (padded 16 ns)

-- the line that a reading makes
unfoldable pub line_of : Reading → Result Line Refusal
unfolding padded
line_of (refused r) = Err r
line_of (asks l ns) = Ok (record { letter = letter_byte l; values = padded 16 ns })
