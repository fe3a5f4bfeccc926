-- `judge::Exempted::entry` meets its contract; facts are named, so that a wrong one is refused for certain.
use Rattle.judge.specs.Stages.{type_exempted}
use Rattle.judge.proofs.ExemptedPass.entry.Goals as goal

pub returns : goal.returns
unfolding type_exempted
returns c =
    rw (c.then_some.ensures, c.covers-in_force.ensures, c.is_marked-exempts.ensures, c.signed_key.ensures, c.from.ensures)
