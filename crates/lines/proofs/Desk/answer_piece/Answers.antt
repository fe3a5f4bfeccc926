-- `lines::Desk::answer_piece` meets its contract. Assumes nothing.
use Rattle.std.proofs.Common.{◌≡◌, ◌+◌, min, length, arith}
use Rattle.lines.proofs.Handing.{left, piece}
use Rattle.lines.proofs.Desk.answer_piece.Goals as goal

pub returns-then-not-has_room_for : goal.returns-then-not-has_room_for
returns-then-not-has_room_for c =
    let m : c.min-n.result ≡ min (c.args.self.held + c.args.came) (length c.args.text.now) = omega arith in search left

pub returns : goal.returns
returns c =
    let m : c.min-n.result ≡ min (c.args.self.held + c.args.came) (length c.args.text.now) = omega arith in search piece
