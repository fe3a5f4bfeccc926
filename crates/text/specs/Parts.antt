-- The line of a text that begins at an index. Assumes nothing.
use Rattle.std.specs.Prelude.{ℕ, ◌+◌, ◌-◌, ◌≤◌, ◌<◌, ◌≡◌, cond, List, [], ◌∷◌, ltb, length, take, drop}
use Rattle.meaning.specs.Text.{place}
use Rattle.meaning.specs.Desk.{lines_of}
use Rattle.text.specs.declared.lines.Span.{Span}

-- where it ends: at the first byte 10, or at the text's end
abbrev pub line_end : List ℕ → ℕ → ℕ
line_end text at = at + place 10 (drop at text)

-- the next line begins after that byte; past the text's end nothing moves
unfoldable pub span_from : List ℕ → ℕ → Span
span_from text at = record {
  end = line_end text at;
  next = cond (ltb (line_end text at) (length text)) (line_end text at + 1) (line_end text at);
}

-- r is the line that begins at an index, and what that is to the meaning's lines
pub record Splits (text : List ℕ) (at : ℕ) (r : Span) : Type 0 where
  pub whole : r ≡ span_from text at
  -- the lines from there on are this one and those from the next on
  pub line : at < length text → lines_of (drop at text) ≡ take (r.end - at) (drop at text) ∷ lines_of (drop r.next text)
  pub none : length text ≤ at → lines_of (drop at text) ≡ []
  -- the next line begins later, and not past the text's end
  pub from : at ≤ r.end
  pub onward : r.end ≤ r.next
  pub later : at < length text → at < r.next
  pub inside : at ≤ length text → r.next ≤ length text
