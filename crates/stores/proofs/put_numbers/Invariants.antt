-- What is stored with the numbers from number n-index on is what is stored in all.
use Rattle.std.proofs.Common.{◌≡◌, ◌≤◌, ◌+◌, ◌*◌, drop}
use Rattle.tables.specs.Bytes.{puts}
use Rattle.stores.specs.Numbers.{all_bytes}
use Rattle.stores.proofs.put_numbers.Given as goal

abbrev pub invariant-loop-n : goal.invariant-loop-n
invariant-loop-n l =
    (l.at ≤ l.start + 4 * l.n-index)
    × (puts l.b l.at 0 (all_bytes (drop l.n-index l.numbers)) ≡ puts l.fn.b l.start 0 (all_bytes l.numbers))
