-- `book::empty` meets its contract. Assumes nothing.
use Rattle.book.proofs.NoRecords.{emptied_filled, emptied_no}
use Rattle.book.proofs.empty.Goals as goal

pub returns-then-book-ne-SIZE : goal.returns-then-book-ne-SIZE
returns-then-book-ne-SIZE c = search emptied_no

pub returns : goal.returns
returns c = search (emptied_filled, c.fill.ensures.after)
