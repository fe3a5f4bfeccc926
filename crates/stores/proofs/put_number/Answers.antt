-- `stores::put_number` meets its contract. Assumes nothing.
use Rattle.std.proofs.Common.{◌≡◌, ℕ, ◌/◌, arith}
use Rattle.tables.specs.Bytes.{digits}
use Rattle.stores.specs.Numbers.{bytes}
use Rattle.stores.proofs.put_number.Goals.{in-One, in-Two, in-Three, in-Four}
use Rattle.stores.proofs.put_number.Goals as goal

pub returns : goal.returns
unfolding bytes digits
returns c =
    elim c.match-n.branch [
      | in-One w ↦ rw (w.in-One.is) (rw (c.to_le_bytes.ensures, w.v-is) at c.put_bytes.ensures)
      | in-Two w ↦ rw (w.in-Two.is) (rw (c.to_le_bytes.ensures, w.v-is) at c.put_bytes.ensures)
      | in-Three w ↦ rw (w.in-Three.is, second w.in-Three.v) (rw (c.to_le_bytes.ensures, w.v-is) at c.put_bytes.ensures)
      | in-Four w ↦ rw (w.in-Four.is, third w.in-Four.v, second w.in-Four.v) (rw (c.to_le_bytes.ensures, w.v-is) at c.put_bytes.ensures)
    ]
  where
    second : (v : ℕ) → v / 256 / 256 ≡ v / 65536
    second v = omega arith

    third : (v : ℕ) → v / 256 / 256 / 256 ≡ v / 16777216
    third v = omega arith
