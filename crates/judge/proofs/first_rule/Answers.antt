-- `judge::first_rule` meets its contract. Assumes nothing.
use Rattle.judge.proofs.Listing.{first_by}
use Rattle.judge.proofs.first_rule.Goals as goal

pub returns : goal.returns
returns c = first_by _ _ _ c.first_positive.ensures c.rules_listed.ensures
