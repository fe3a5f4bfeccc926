-- What a line reader has left. Assumes nothing.
use Rattle.std.specs.Prelude.{ℕ, List, drop}
use Rattle.fields.specs.Cut.{more}
use Rattle.fields.specs.declared.LineReader.{LineReader}

-- the fields after its comma
abbrev pub fields_left : LineReader → List (List ℕ)
fields_left r = more (drop r.at r.line.now)
