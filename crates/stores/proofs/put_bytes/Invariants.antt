-- What is stored with the bytes from byte k on is what is stored in all.
use Rattle.std.proofs.Common.{◌≡◌, drop}
use Rattle.tables.specs.Bytes.{puts}
use Rattle.stores.proofs.put_bytes.Given as goal

abbrev pub invariant-loop-k : goal.invariant-loop-k
invariant-loop-k l = puts l.b l.at l.k (drop l.k l.bytes) ≡ puts l.fn.b l.at 0 l.bytes
