-- The record whose place starts at an address. Assumes nothing.
use Rattle.std.specs.Prelude.{ℕ, ◌+◌, ◌*◌, ◌<◌, Bool, ◌&&◌, List}
use Rattle.tables.specs.Bytes.{byte_at, numbers, number, three, four}
use Rattle.meaning.specs.Forms.{holds, sequence_form}
use Rattle.meaning.specs.Sound.{key_fits}
use Rattle.places.specs.Layout.{type_widths, type_from, rule_widths, rule_from, row_widths, row_from, period_widths, period_from}
use Rattle.places.specs.declared.RestrictionType.{RestrictionType}
use Rattle.places.specs.declared.Rule.{Rule}
use Rattle.places.specs.declared.Row.{Row}
use Rattle.places.specs.declared.Period.{Period}

-- each number of a book is a byte
pub record Bytes (b : List ℕ) : Type 0 where
  pub each : (i : ℕ) → byte_at b i < 256

unfoldable pub type_read : List ℕ → ℕ → RestrictionType
type_read b at = type_from (numbers type_widths b at 0)

unfoldable pub rule_read : List ℕ → ℕ → Rule
rule_read b at = rule_from (numbers rule_widths b at 0)

unfoldable pub row_read : List ℕ → ℕ → Row
row_read b at = row_from (numbers row_widths b at 0)

unfoldable pub period_read : List ℕ → ℕ → Period
period_read b at = period_from (numbers period_widths b at 0)

-- the eight bytes at an offset of a place as one number, lowest first
abbrev pub eight_at : List ℕ → ℕ → ℕ → ℕ
eight_at b at j = number four b at j + 4294967296 * number four b at (j + 4)

-- the seven bytes after the one at an offset, likewise
abbrev pub seven_after : List ℕ → ℕ → ℕ → ℕ
seven_after b at j = number three b at (j + 1) + 16777216 * number four b at (j + 4)

-- the range of a rule's key, which stands first in rules and in rows
unfoldable pub key_holds : List ℕ → ℕ → Bool
key_holds b at = key_fits (byte_at b (at + 1)) (byte_at b (at + 2)) && holds sequence_form (byte_at b (at + 3))
