-- What an edit leaves of the lone books, and what an accepted one makes of a sound book (demand 2). Assumes nothing.
use Rattle.std.specs.Prelude.{ℕ, ◌≤◌, ◌≡◌, true, List, None, length}
use Rattle.meaning.specs.Records as M
use Rattle.meaning.specs.Refusals.{refusal}
use Rattle.meaning.specs.Edits as meant
use Rattle.meaning.specs.SameBook.{SameBook}
use Rattle.book.specs.Lone.{lone_book}
use Rattle.book.specs.Sound.{all_placed, sound}

-- of an edit of depository c: c's book has exactly the records of m, every other's is what it was
pub record Leaves (b b' : List ℕ) (c : ℕ) (m : M.Book) : Type 0 where
  pub size : length b' ≡ length b
  -- every place stays free or a depository's
  pub places : all_placed b ≡ true → all_placed b' ≡ true
  pub own : SameBook (lone_book c b') m
  pub others : (a : ℕ) → 1 ≤ a → (c ≡ a → ⊥) → lone_book a b' ≡ lone_book a b

-- over a sound book, a command of a depository, in range as that of every line that is read, and no refusal of it holds
pub record Accepted (b : List ℕ) (c : ℕ) (k : M.Command) : Type 0 where
  pub book : sound b ≡ true
  pub low : 1 ≤ c
  pub high : c ≤ 8
  pub fits : meant.fits k ≡ true
  pub unrefused : refusal (lone_book c b) k ≡ None

-- its depository holds exactly the records that the meaning leaves it, every other exactly what it held, and the book
-- is sound
pub record Edited (b : List ℕ) (c : ℕ) (k : M.Command) (b' : List ℕ) : Type 0 where
  pub left : Leaves b b' c (meant.edited (lone_book c b) k)
  pub stays : sound b' ≡ true
