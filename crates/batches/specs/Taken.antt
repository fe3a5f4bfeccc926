-- What a batch does to a book and to its answer space. Assumes nothing.
use Rattle.std.specs.Prelude.{ℕ, ◌+◌, ◌*◌, ◌≤◌, ◌<◌, ◌≡◌, Bool, List, Result, length, get_or, take, drop}
use Rattle.meaning.specs.Desk.{lines_of}
use Rattle.meaning.specs.Printing.{printed}
use Rattle.meaning.specs.declared.Answer.{Answer}
use Rattle.meaning.specs.Batch.{width, filled, spaced, space_after, batch_result, batch_lines}
use Rattle.meaning.specs.declared.Refusal.{Refusal}
use Rattle.meaning.specs.declared.Sent.{Sent}
use Rattle.meaning.specs.declared.Sent.TheVariants.{InBatch}
use Rattle.book.specs.Sound.{sound}
use Rattle.answering.specs.Taking.{answer_by, bytes_by}
use Rattle.lines.specs.Many.{laid, answers_by, book_by}

-- an answer written to an index, zeros behind it; it has room in 32 bytes
pub record Put (before : List ℕ) (at : ℕ) (a : Answer) (after : List ℕ) : Type 0 where
  pub whole : after ≡ laid before at (filled (printed a))
  pub few : length (printed a) ≤ width

-- one line answered over a book that was found to be sound, or not to be, and the answer written to an index;
-- r is where the next one goes
pub record Turn (how : Sent) (t : Bool) (before line out : List ℕ) (at r : ℕ) (after out' : List ℕ) : Type 0 where
  pub book : after ≡ bytes_by how t before line
  pub put : Put out at (answer_by how t before line) out'
  pub next : r ≡ at + width

-- every line of a text
pub record TakenBy (how : Sent) (t : Bool) (before text out after out' : List ℕ) : Type 0 where
  pub book : after ≡ book_by how t before (lines_of text)
  pub answers : out' ≡ space_after (answers_by how t before (lines_of text)) out
  pub sized : length (spaced (answers_by how t before (lines_of text))) ≡ width * length (lines_of text)

-- in a batch of a depository, over any book
abbrev pub TakenIn : ℕ → List ℕ → List ℕ → List ℕ → List ℕ → List ℕ → Type 0
TakenIn csd before text out after out' = TakenBy (InBatch csd) (sound before) before text out after out'

-- answer i, from 0, as printed without byte 10, stands at byte 32 × i, zeros filling its 32 bytes; later space is
-- untouched
pub record Placed (answers : List Answer) (before after : List ℕ) : Type 0 where
  pub stands : (d : Answer) (i : ℕ) → i < length answers
      → take width (drop (width * i) after) ≡ filled (printed (get_or answers i d))
  pub later : drop (width * length answers) after ≡ drop (width * length answers) before

-- a batch: the lines that it stands as, over any book
pub record Taken (before : List ℕ) (csd : ℕ) (text out : List ℕ) (r : Result ℕ Refusal) (after out' : List ℕ) : Type 0 where
  pub result : r ≡ batch_result text (length out)
  pub book : after ≡ book_by (InBatch csd) (sound before) before (batch_lines text (length out))
  pub answers : out' ≡ space_after (answers_by (InBatch csd) (sound before) before (batch_lines text (length out))) out
  pub placed : Placed (answers_by (InBatch csd) (sound before) before (batch_lines text (length out))) out out'
