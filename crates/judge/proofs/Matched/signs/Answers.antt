-- `judge::Matched::signs` meets its contract. Assumes nothing.
use Rattle.std.proofs.Common.{refl}
use Rattle.tables.specs.Keyed.{marked}
use Rattle.tables.proofs.Keying.{keyed_marks}
use Rattle.places.specs.Layout.{rule_places, rule_at}
use Rattle.judge.specs.Stages.{typed_key, type_keys, rule_matches, signs_matched}
use Rattle.judge.proofs.Matched.signs.Goals as goal

pub returns : goal.returns
unfolding signs_matched
returns c =
    keyed_marks type_keys _ _ (rule_at c.args.self.now.book.now) typed_key (rule_matches c.args.self.now.q (marked c.args.self.now.rows.now)) _
    rule_places rule_places c.table.ensures refl
