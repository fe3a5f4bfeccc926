-- `records::all_agree` meets its contract. Assumes nothing.
use Rattle.std.proofs.Common.{rules, refl}
use Rattle.std.proofs.lemmas.Iterator.{YieldsList-from_range}
use Rattle.std.proofs.lemmas.Iterator.Search.{all_from_yields_List}
use Rattle.records.specs.Criteria.{belongs, agrees}
use Rattle.records.proofs.Ten.{all_ten, agreeing}
use Rattle.records.proofs.all_agree.Goals as goal

pub returns : goal.returns
returns c =
    all_ten (agrees c.args.criteria c.args.v) c.all.result
    (all_from_yields_List (agrees c.args.criteria c.args.v) _ _ c.all.result c.all.ensures.ran (YieldsList-from_range 0 10 10 refl refl)
    (λ x b q k. (search rules, agreeing _ _ _ (belongs c.args.criteria x) _ refl (search rules))))
