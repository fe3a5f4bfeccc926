-- `line::reading::read_values` meets its contract.
use mathlib.Core.List.{map}
use Rattle.shapes.specs.Table.{field_of}
use Rattle.fields.specs.Left.{fields_left}
use Rattle.line.proofs.FieldNumbers.{RowTo}
use Rattle.line.proofs.reading.read_values.Given as goal

abbrev pub invariant-loop-k : goal.invariant-loop-k
invariant-loop-k l = RowTo (map field_of l.fields) (fields_left l.initial.reader) l.values (fields_left l.reader) l.k
