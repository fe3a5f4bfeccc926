-- 'Types from next year only' (document 02, request c) in the shared book. Stated here, proved in proofs/Within.
-- Assumes nothing.
use Rattle.std.specs.Prelude.{ℕ, ◌≤◌, ◌≡◌, true, false, List, Ok}
use Rattle.tables.specs.Count.{keep}
use Rattle.meaning.specs.Lone.{counts}
use Rattle.meaning.specs.Within.{all_within, some_e, shortened_lines}
use Rattle.meaning.specs.declared.Answer.{Answer}
use Rattle.meaning.specs.declared.Sent.{Sent}
use Rattle.book.specs.Emptied.{Emptied}
use Rattle.book.specs.Lone.{lone_book}
use Rattle.book.specs.Sound.{sound}
use Rattle.precheck.specs.Batch.{Steps}
use Rattle.precheck.specs.Tries.{LeftBy, SomeLeft}

-- From a book just emptied on, whatever lines are sent, alone or in batches: every rule of a depository lies within its
-- type, unless one of the lines that count as the depository's is an E. A neighbour's E alters nothing.
abbrev pub WithinTypes : Type 0
WithinTypes =
    (lent emptied after : List ℕ) → Emptied lent emptied (Ok tt)
    → (lines : List (Sent × List ℕ)) (answers : List Answer) → Steps emptied lines answers after
    → (a : ℕ) → 1 ≤ a → a ≤ 8
    → some_e (keep (counts a) lines) ≡ false
    → all_within (lone_book a after) ≡ true

-- The lines that shorten a type under its rule leave a book, and every book that they leave is sound and has a rule
-- that does not lie within its type.
pub record SoundShared : Type 0 where
  pub some : SomeLeft shortened_lines
  pub each_sound : (book : List ℕ) → LeftBy shortened_lines book → sound book ≡ true
  pub each_outside : (book : List ℕ) → LeftBy shortened_lines book → all_within (lone_book 2 book) ≡ false
