-- `judge::rules_within` meets its contract. Assumes nothing.
use Rattle.matching.specs.MatchedRows.{rule_keys}
use Rattle.passes.proofs.Passing.{keyed_of}
use Rattle.judge.proofs.Judging.{fresh_rows, all_rows}
use Rattle.judge.proofs.rules_within.Goals as goal

pub returns-then-fresh : goal.returns-then-fresh
returns-then-fresh c =
    fresh_rows _ _ _ _ _ (keyed_of _ rule_keys c.requires c.mark_new_rules.ensures)
    (keyed_of _ rule_keys c.blank-rows.ensures.long c.mark_rules.ensures) c.if-fresh.true

pub returns-else-fresh : goal.returns-else-fresh
returns-else-fresh c = all_rows _ _ _ _ (keyed_of _ rule_keys c.requires c.mark_rules-else-fresh.ensures) c.if-fresh.false
