-- `batches::answer_each` meets its contract. Assumes nothing.
use Rattle.meaning.specs.Desk.{lines_of}
use Rattle.batches.specs.Left.{lines_left}
use Rattle.batches.proofs.Filling.{Going}
use Rattle.batches.proofs.answer_each.Given as goal

abbrev pub invariant-loop-line : goal.invariant-loop-line
invariant-loop-line l =
    Going l.initial.book (lines_of l.text) l.initial.out l.sent l.sound l.book l.out (lines_left l.line-iterator) l.at
