-- `records::filled_count` meets its contract. Assumes nothing.
use Rattle.std.proofs.Common.{rules, refl, ltb}
use Rattle.std.proofs.lemmas.Iterator.{YieldsList-from_slice}
use Rattle.std.proofs.lemmas.Iterator.Consumers.{count_from_yields_List, YieldsList-from_filter}
use Rattle.records.proofs.Ten.{filled_by}
use Rattle.records.proofs.filled_count.Goals as goal

pub returns : goal.returns
returns c =
    filled_by c.args.v c.count.result
    (count_from_yields_List _ c.count.result c.count.ensures.ran
    (YieldsList-from_filter _ (λ x. ltb 0 x) (YieldsList-from_slice c.args.v (search rules)) refl (λ x b q k. search rules)))
