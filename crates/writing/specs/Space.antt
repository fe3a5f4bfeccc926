-- The fixed space, and what is in it behind what is written. Assumes nothing.
use Rattle.std.specs.Prelude.{◌≤◌, ◌≡◌, length, take}
use Rattle.tables.specs.Padded.{padded}
use Rattle.writing.specs.declared.bytes.Written.TheInside.{Inside}

-- the length is that of what stands in front, and zeros fill the space behind it
pub record ZerosBehind (w : Inside) : Type 0 where
  pub few : w.len ≤ 80
  pub count : length (take w.len w.bytes) ≡ w.len
  pub zeros : padded 80 (take w.len w.bytes) ≡ w.bytes

-- so what stands in front gives both fields back
pub gives_back : (w : Inside) → ZerosBehind w → record { bytes = padded 80 (take w.len w.bytes); len = length (take w.len w.bytes) } ≡ w
gives_back w h i = record { bytes = h.zeros i; len = h.count i }
