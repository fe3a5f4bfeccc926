-- `soundness::owned::ruled` meets its contract. Assumes nothing.
use Rattle.std.proofs.Common.{arith, rules}
use Rattle.places.specs.Layout.{rule_places}
use Rattle.soundness.specs.Kind as Kinds
use Rattle.soundness.proofs.BucketWords.{rule_bucket_of_lem}
use Rattle.soundness.proofs.Walks.{walkable, ruled_unfit, criteria_filled, ruled_found}
use Rattle.soundness.proofs.owned.ruled.Goals as goal

pub returns-in_default : goal.returns-in_default
returns-in_default c = search ruled_unfit

pub any-requires : goal.any-requires
any-requires c =
    walkable c.args.book.bytes.now Kinds.Rules _ _ rule_places _ c.requires.chained_of (omega arith) (omega arith)
    (λ j l. let h = criteria_filled c.args.book.bytes.now c.args.place.start _ c.filled.ensures _ c.in-Some.is in search rules)

pub returns : goal.returns
returns c =
    ruled_found c.args.book.bytes.now c.args.place.start _ c.filled.ensures _ _ _ _ _ c.any.ensures c.in-Some.is (rule_bucket_of_lem c.args.book.bytes.now c.args.place.start c.key_bucket.ensures.value c.four.ensures.value) c.requires.at_nonzero c.requires.chained_of
    (λ j t l p. search (rules, p))
