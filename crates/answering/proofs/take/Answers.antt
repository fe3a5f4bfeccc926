-- `answering::take` meets its contract. Assumes nothing.
use Rattle.answering.proofs.Commands.{none_given, took_refusal, took_question, took_edit, question_of_lem}
use Rattle.commands.proofs.Narrow.{not_asked}
use Rattle.answering.proofs.take.Goals as goal

pub returns-in-Some : goal.returns-in-Some
returns-in-Some c = search took_refusal

pub returns-in-Ask : goal.returns-in-Ask
returns-in-Ask c =
    took_question _ _ _ (none_given c.in_default.not-Some) c.refusal.ensures.meant _ _ c.judge.result
    c.answer_to.result
    (question_of_lem _ _ _ c.in-Ask.is)
    c.judge.ensures.by_bytes
    c.judge.ensures.meant
    c.answer_to.ensures

pub returns : goal.returns
returns c = search (took_edit, not_asked)
