-- `writing::bytes::Written::push` meets its contract.
use native.Mathlib.Omega.{arith}
use mathlib.Core.Path.{sym, ◌∙◌}
use lib.ListN.{take}
use borrow.Author.Tests.{ltb-true, ltb-false}
use Rattle.writing.specs.Written.{space}
use Rattle.writing.proofs.Texts.{no_room}
use Rattle.writing.proofs.InSpace.{put_front, put_in}
use Rattle.writing.proofs.bytes.Written.push.Goals as goal

pub invariant_of-self : goal.invariant_of-self
invariant_of-self c =
    put_in c.self.inside c.self.invariant c.args.c (ltb-true c.self.inside.len space (sym c.has_room.ensures ∙ c.if-has_room.true))

pub returns-then-has_room : goal.returns-then-has_room
returns-then-has_room c =
    rw (← c.self.view_is)
    (put_front c.self.inside c.self.invariant c.args.c (ltb-true c.self.inside.len space (sym c.has_room.ensures ∙ c.if-has_room.true)))

pub returns-else-has_room : goal.returns-else-has_room
returns-else-has_room c =
    let full = ltb-false c.self.inside.len space (sym c.has_room.ensures ∙ c.if-has_room.false) in
    rw (← c.self.view_is) (no_room (take c.self.inside.len c.self.inside.bytes) c.args.c (omega (arith, c.self.invariant.count, full)))
