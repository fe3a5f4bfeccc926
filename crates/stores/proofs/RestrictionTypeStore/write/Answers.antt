-- `stores::RestrictionTypeStore::write` meets its contract. Assumes nothing.
-- Written by tools/places.py: change that, then run tools/generate.
use Rattle.std.proofs.Common.{◌∙◌, rules}
use Rattle.tables.specs.Bytes.{digits, bytes_of}
use Rattle.stores.specs.Numbers.{bytes, all_bytes}
use Rattle.stores.proofs.RestrictionTypeStore.write.Goals as goal

pub returns : goal.returns
unfolding bytes all_bytes bytes_of digits
returns c = c.put_numbers.ensures ∙ search rules
