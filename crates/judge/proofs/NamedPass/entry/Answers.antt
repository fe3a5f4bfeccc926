-- `judge::Named::entry` meets its contract; facts are named, so that a wrong one is refused for certain.
use Rattle.judge.specs.Stages.{type_applies}
use Rattle.judge.proofs.NamedPass.entry.Goals as goal

pub returns : goal.returns
unfolding type_applies
returns c =
    rw (
      c.then_some.ensures,
      c.covers-current.ensures,
      c.is_marked-positive.ensures,
      c.signed_key.ensures,
      c.is_marked-negative.ensures,
      c.signed_key-2.ensures,
      c.passed_over.ensures,
      c.lesser.ensures,
      c.byte_at.ensures,
      c.from-k.ensures,
    )
