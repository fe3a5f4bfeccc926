-- `writing::whole::write_line` meets its contract.
use Rattle.writing.proofs.LineTexts.{FieldsTo}
use Rattle.writing.proofs.whole.write_line.Given as goal

abbrev pub invariant-loop-field : goal.invariant-loop-field
invariant-loop-field l =
    FieldsTo l.initial.line l.initial.field-iterator.a.rest.now l.initial.field-iterator.b.rest.now l.line l.field-iterator.a.rest.now
    l.field-iterator.b.rest.now
