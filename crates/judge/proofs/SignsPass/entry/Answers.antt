-- `judge::Signs::entry` meets its contract; facts are named, so that a wrong one is refused for certain.
use Rattle.judge.proofs.SignsPass.entry.Goals as goal

pub returns : goal.returns
returns c = rw (c.then_some.ensures, c.rule_matches.ensures, c.signed_key.ensures)
