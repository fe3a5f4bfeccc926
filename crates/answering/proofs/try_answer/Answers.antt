-- `answering::try_answer` meets its contract. Assumes nothing.
use Rattle.std.proofs.Common.{refl}
use Rattle.std.proofs.lemmas.Result.{err_from_is_err_and}
use Rattle.answering.proofs.Submits.{answers_unsound, answers_unread, answers_wrong, answers_elsewhere, answers_read}
use Rattle.answering.proofs.try_answer.Goals as goal

pub returns-then-not-sound : goal.returns-then-not-sound
returns-then-not-sound c = search answers_unsound

pub returns-in_err-l : goal.returns-in_err-l
returns-in_err-l c =
    let p = err_from_is_err_and c.from_residual.result c.from_residual.ensures.1 in
    rw (p.1, p.2) (answers_unread _ _ _ _ _ c.if-not-sound.false _ c.in_err-l.ensures refl)

pub returns-then-is_wrong : goal.returns-then-is_wrong
returns-then-is_wrong c =
    answers_wrong _ _ _ _ _ c.if-not-sound.false _ c.in_ok-l.ensures _ _ c.command_of-c.ensures c.is_wrong.ensures
    c.if-is_wrong.true refl

pub returns-then-is_elsewhere : goal.returns-then-is_elsewhere
returns-then-is_elsewhere c =
    answers_elsewhere _ _ _ _ _ c.if-not-sound.false _ c.in_ok-l.ensures _ _ c.command_of-c.ensures c.is_wrong.ensures
    c.if-is_wrong.false _ c.is_elsewhere.ensures c.if-is_elsewhere.true refl

pub returns : goal.returns
returns c =
    answers_read _ _ _ _ _ c.if-not-sound.false _ c.in_ok-l.ensures _ _ c.command_of-c.ensures c.is_wrong.ensures
    c.if-is_wrong.false _ c.is_elsewhere.ensures _ c.if-is_elsewhere.false c.take.ensures
