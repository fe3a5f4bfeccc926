-- `memory::spare_clear` meets its contract; facts are named, so that a wrong one is refused for certain.
use Rattle.memory.proofs.Bits.{spare_by}
use Rattle.memory.proofs.spare_clear.Goals as goal

pub returns : goal.returns
returns c =
    spare_by c.args.m _ _ _ _ _
    c.is_remembered-5.ensures
    c.is_remembered-4.ensures
    c.is_remembered-3.ensures
    c.is_remembered-2.ensures
    c.is_remembered.ensures
