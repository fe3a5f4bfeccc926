-- `soundness::is_sound` meets its contract. Assumes nothing.
use Rattle.std.proofs.Common.{arith, ◌≡◌, length}
use Rattle.places.specs.Layout.{book_size}
use Rattle.soundness.proofs.Decided.{other_size}
use Rattle.soundness.proofs.Stages.{types_fail, rules_fail, rows_fail, sound_end}
use Rattle.soundness.proofs.is_sound.Goals as goal

pub returns-then-size-ne-SIZE : goal.returns-then-size-ne-SIZE
returns-then-size-ne-SIZE c = other_size c.args.b.now (λ e. omega arith)

pub invariant_of-book : goal.invariant_of-book
invariant_of-book c = let e : length c.args.b.now ≡ book_size = omega (arith, c.if-size-ne-SIZE.false) in record { sized = e }

pub returns-then-not-all : goal.returns-then-not-all
returns-then-not-all c = search types_fail

pub returns-then-not-all-2 : goal.returns-then-not-all-2
returns-then-not-all-2 c = search rules_fail

pub returns-then-not-all-3 : goal.returns-then-not-all-3
returns-then-not-all-3 c = search rows_fail

pub returns : goal.returns
returns c = search sound_end
