-- `soundness::owned::typed` meets its contract. Assumes nothing.
use Rattle.std.proofs.Common.{rules}
use Rattle.soundness.proofs.BucketWords.{type_bucket_of_lem}
use Rattle.soundness.proofs.Walks.{typed_walk}
use Rattle.soundness.proofs.owned.typed.Goals as goal

pub returns : goal.returns
returns c =
    typed_walk c.args.book.bytes.now c.args.place.start _ _ _ _ c.any.ensures (type_bucket_of_lem c.args.book.bytes.now c.args.place.start c.key_bucket.ensures.value c.three.ensures.value) c.requires.at_nonzero c.requires.chained_of
    (λ j t l p. search (rules, p))
