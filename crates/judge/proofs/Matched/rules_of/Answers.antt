-- `judge::Matched::rules_of` meets its contract. Assumes nothing.
use Rattle.std.proofs.Common.{refl}
use Rattle.tables.specs.Keyed.{marked}
use Rattle.tables.proofs.Keying.{keyed_marks}
use Rattle.places.specs.Layout.{rule_places, rule_at}
use Rattle.judge.specs.Stages.{signed_key, sign_keys, rule_of_type, rules_matched}
use Rattle.judge.proofs.Matched.rules_of.Goals as goal

pub returns : goal.returns
unfolding rules_matched
returns c =
    keyed_marks sign_keys _ _ (rule_at c.args.self.now.book.now) signed_key (rule_of_type c.args.self.now.q (marked c.args.self.now.rows.now) c.args.number) _
    rule_places rule_places c.table.ensures refl
