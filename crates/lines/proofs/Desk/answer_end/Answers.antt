-- `lines::Desk::answer_end` meets its contract. Assumes nothing.
use Rattle.lines.proofs.Handing.{left, no_line, last_line_lem}
use Rattle.lines.proofs.Desk.answer_end.Goals as goal

pub returns-then-not-has_room_for : goal.returns-then-not-has_room_for
returns-then-not-has_room_for c = search left

pub returns-then-n-eq0 : goal.returns-then-n-eq0
returns-then-n-eq0 c = search no_line

pub returns : goal.returns
returns c = search last_line_lem
