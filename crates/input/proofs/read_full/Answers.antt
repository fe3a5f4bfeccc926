-- What came fits behind what is held, and the text keeps its length: named, so that a wrong count is refused for
-- certain.
use Rattle.std.proofs.Common.{ℕ, List, ◌≡◌, ◌+◌, ◌-◌, ◌≤◌, arith, length, length-drop, take, drop}
use Rattle.std.proofs.lemmas.List.{length-take}
use borrow.Rule.Slice.PartMut.{same_len_mid}
use Rattle.input.proofs.read_full.Goals as goal

fits : (held came : ℕ) (text rest after : List ℕ) → held ≤ length text → came ≤ length rest
    → length rest ≡ length (take (length text - held) (drop held text)) → length after ≡ length text
    → held + came ≤ length after
fits held came text rest after h k e s =
    omega (arith, h, k, e, s, length-take (length text - held) (drop held text), length-drop held text)

pub loop-preserved : goal.loop-preserved
loop-preserved g c =
    let kept = same_len_mid _ _ c.loop.text _ c.read.auto.buf in
    fits c.loop.held c.in_ok-came.came c.loop.text c.read.new.buf _ c.loop.invariant c.in_ok-came.ensures.bound.0
    c.read.auto.buf kept
