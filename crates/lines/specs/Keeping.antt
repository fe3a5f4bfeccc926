-- The begun line moved to the front of a text. Assumes nothing.
use Rattle.std.specs.Prelude.{ℕ, ◌-◌, ◌≤◌, ◌≡◌, List, length, take, drop}
use Rattle.lines.specs.Ended.{short}
use Rattle.lines.specs.Many.{laid}

-- the bytes from an index up to another, none where they lie the other way round
abbrev pub part : List ℕ → ℕ → ℕ → List ℕ
part text from to = take (to - from) (drop from text)

pub record Keeps (before : List ℕ) (from to r : ℕ) (after : List ℕ) : Type 0 where
  pub whole : after ≡ laid before 0 (short (part before from to))
  pub kept : r ≡ length (short (part before from to))
  pub few : r ≤ 81
  pub inside : r ≤ length after
