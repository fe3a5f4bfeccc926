-- `batches::answer_each` meets its contract. Assumes nothing.
use mathlib.Core.Path.{◌≡◌, ap, ◌∙◌}
use Rattle.std.proofs.Common.{rules}
use Rattle.meaning.specs.Desk.{lines_of}
use Rattle.batches.specs.Left.{lines_left}
use Rattle.batches.proofs.Filling.{going_first, going_on, going_out, room_for}
use Rattle.batches.proofs.answer_each.Goals as goal

pub loop-line-init : goal.loop-line-init
loop-line-init c =
    let new = c.new-line-items.ensures in
    let all : lines_left c.new-line-items.result ≡ lines_of c.args.text.now = rw (new.0, new.1) in
    going_first (ap lines_left c.into_iter-line-iterator.ensures.into_iter_gives ∙ all) c.requires

pub answer_line-at-requires : goal.answer_line-at-requires
answer_line-at-requires c = room_for c.loop-line.invariant c.in-Some.ensures.steps

pub loop-line-preserved : goal.loop-line-preserved
loop-line-preserved c =
    going_on c.loop-line.invariant c.in-Some.ensures.steps c.answer_line-at.ensures (search rules) (search rules)

pub returns : goal.returns
returns c = going_out c.loop-line.invariant c.in-None.ensures.steps.0
