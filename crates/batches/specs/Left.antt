-- What an iterator over the lines of a text has left. Assumes nothing.
use Rattle.std.specs.Prelude.{ℕ, List, drop}
use Rattle.meaning.specs.Desk.{lines_of}
use Rattle.batches.specs.declared.Lines.{Lines}

-- the lines from its index on
abbrev pub lines_left : Lines → List (List ℕ)
lines_left s = lines_of (drop s.at s.text.now)
