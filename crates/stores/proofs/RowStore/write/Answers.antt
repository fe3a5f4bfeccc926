-- `stores::RowStore::write` meets its contract. Assumes nothing.
-- Written by tools/places.py: change that, then run tools/generate.
use Rattle.tables.specs.Bytes.{digits, bytes_of}
use Rattle.stores.specs.Numbers.{bytes, all_bytes}
use Rattle.stores.proofs.RowStore.write.Goals as goal

pub returns : goal.returns
unfolding bytes all_bytes bytes_of digits
returns c = rw (c.put_numbers.ensures, c.from.ensures, c.from-2.ensures, c.from-3.ensures, c.from-4.ensures)
