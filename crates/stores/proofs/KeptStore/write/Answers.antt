-- `stores::KeptStore::write` meets its contract. Assumes nothing.
-- Written by tools/places.py: change that, then run tools/generate.
use Rattle.std.proofs.Common.{rules}
use Rattle.stores.proofs.KeptStoring.{instruction_put}
use Rattle.stores.proofs.KeptStore.write.Goals as goal

pub returns : goal.returns
returns c =
    instruction_put _ _ _ _ _ _ c.args.self (search rules) (search rules) c.put_bytes.ensures.0 c.put_numbers.ensures
    c.from.ensures c.from-2.ensures
