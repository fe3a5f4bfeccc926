-- A text that is read in pieces is answered as if it had come whole. Stated here, proved in proofs/WholeText. Assumes
-- nothing.
use Rattle.std.specs.Prelude.{ℕ, ◌+◌, ◌≤◌, ◌≡◌, Some, List, [], ◌∷◌, ◌++◌, length, take, Ok}
use Rattle.meaning.specs.Desk.{lines_of, output}
use Rattle.meaning.specs.Lone.{lone_answers}
use Rattle.meaning.specs.declared.Answer.{Answer}
use Rattle.book.specs.Emptied.{Emptied}
use Rattle.precheck.specs.Alone.{answers_to}
use Rattle.lines.specs.Many.{answers_of, book_after}
use Rattle.lines.specs.Sent.{Singly}
use Rattle.lines.specs.Pieces.{at_first, Piece, End}
use Rattle.lines.specs.declared.Desk.{Desk}
use Rattle.lines.specs.declared.Step.{Step}

-- a piece is read behind the bytes that are held, whatever else stands in the text space; at the end of input it has no
-- byte
abbrev pub Reads : Desk → List ℕ → List ℕ → List ℕ → Type 0
Reads d text piece text' = take (d.held + length piece) text' ≡ take d.held text ++ piece

-- pieces handed to a desk one by one up to the end of input, what it writes to the output, and the book after them:
-- each step is exactly what `Desk::answer_piece` promises where there is room, and the last what `Desk::answer_end`
-- promises
pub data Fed : Desk → List ℕ → List ℕ → List (List ℕ) → List ℕ → List ℕ → Type 0 where
  last : {d : Desk} {book text text₁ out book' out' : List ℕ} {r : Step}
      → Reads d text [] text₁ → End d book text₁ out (Some r) book' out'
      → Fed d book text [] (take r.written out') book'
  more : {d : Desk} {book text piece text₁ out book' text' out' written after : List ℕ} {r : Step}
      {pieces : List (List ℕ)}
      → Reads d text piece text₁ → Piece d (length piece) book text₁ out (Some r) book' text' out'
      → Fed r.desk book' text' pieces written after
      → Fed d book text (piece ∷ pieces) (take r.written out' ++ written) after

-- for every desk, every book and every list of pieces there is such a run
pub record Feeds (d : Desk) (book text : List ℕ) (pieces : List (List ℕ)) : Type 0 where
  pub written : List ℕ
  pub after : List ℕ
  pub fed : Fed d book text pieces written after

abbrev pub EveryText : Type 0
EveryText = (d : Desk) (book text : List ℕ) (pieces : List (List ℕ)) → Feeds d book text pieces

-- the pieces as one text
unfoldable pub joined : List (List ℕ) → List ℕ
joined [] = []
joined (piece ∷ pieces) = piece ++ joined pieces

-- over any book, however a text is parted into pieces: what is written is the output of the answers to the lines of the
-- whole text, the book is that after them, and these are steps of `submit`
pub record AnswersLines (b text written after : List ℕ) : Type 0 where
  pub outputs : written ≡ output (answers_of b (lines_of text))
  pub book : after ≡ book_after b (lines_of text)
  pub sent : Singly b (lines_of text) (answers_of b (lines_of text)) after

abbrev pub Whole : Type 0
Whole =
    (book text : List ℕ) (pieces : List (List ℕ)) (written after : List ℕ)
    → Fed (at_first book) book text pieces written after
    → AnswersLines book (joined pieces) written after

-- demand 3 for a text that comes in pieces: what is written is the output of answers of which those at the lines that
-- name a depository are its lone book's
pub record Alone (text written : List ℕ) : Type 0 where
  pub answers : List Answer
  pub outputs : written ≡ output answers
  pub alone : (a : ℕ) → 1 ≤ a → a ≤ 8 → answers_to a (lines_of text) answers ≡ lone_answers a (lines_of text)

abbrev pub DeskAlone : Type 0
DeskAlone =
    (lent emptied : List ℕ) → Emptied lent emptied (Ok tt)
    → (text : List ℕ) (pieces : List (List ℕ)) (written after : List ℕ)
    → Fed (at_first emptied) emptied text pieces written after
    → Alone (joined pieces) written
