-- Lines answered one by one, each as `submit` answers it, and the answers written one after the other. Assumes nothing.
use Rattle.std.specs.Prelude.{ℕ, ◌+◌, ◌*◌, ◌≤◌, ◌≡◌, Bool, cond, List, [], ◌∷◌, ◌++◌, leb, length, take, drop}
use Rattle.meaning.specs.Printing.{printed}
use Rattle.meaning.specs.declared.Answer.{Answer}
use Rattle.meaning.specs.declared.Sent.{Sent}
use Rattle.meaning.specs.declared.Sent.TheVariants.{Alone}
use Rattle.book.specs.Sound.{sound}
use Rattle.answering.specs.Taking.{answer_by, bytes_by}
use Rattle.lines.specs.Ended.{ended}
use Rattle.lines.specs.declared.Progress.{Progress}

-- ---- lines answered one by one, each sent so

-- their answers, over a book that is sound, or is not, as found before the first of them: no line changes that
unfoldable pub answers_by : Sent → Bool → List ℕ → List (List ℕ) → List Answer
answers_by how s b [] = []
answers_by how s b (line ∷ lines) = answer_by how s b line ∷ answers_by how s (bytes_by how s b line) lines

-- and the book after them
unfoldable pub book_by : Sent → Bool → List ℕ → List (List ℕ) → List ℕ
book_by how s b [] = b
book_by how s b (line ∷ lines) = book_by how s (bytes_by how s b line) lines

-- over any book, sent alone
abbrev pub answers_of : List ℕ → List (List ℕ) → List Answer
answers_of b lines = answers_by Alone (sound b) b lines

abbrev pub book_after : List ℕ → List (List ℕ) → List ℕ
book_after b lines = book_by Alone (sound b) b lines

-- how many bytes lines take in a text, each with its byte 10
unfoldable pub bytes_in : List (List ℕ) → ℕ
bytes_in [] = 0
bytes_in (line ∷ lines) = length line + 1 + bytes_in lines

-- an answer as the desk writes it: the printed form, ended by byte 10
unfoldable pub written_as : Answer → List ℕ
written_as a = printed a ++ (10 ∷ [])

-- ---- how far the answers came

-- the book, the answer space, how many bytes of the text were read and how many of the answer space are written
pub record Standing : Type 0 where
  pub book : List ℕ
  pub out : List ℕ
  pub read : ℕ
  pub written : ℕ

-- bytes at an index of a space; the others stay
unfoldable pub laid : List ℕ → ℕ → List ℕ → List ℕ
laid out at l = take at out ++ l ++ drop (at + length l) out

-- a printed answer has at most 32 bytes, so that 33 take any
abbrev pub room : Standing → Bool
room s = leb (s.written + 33) (length s.out)

unfoldable pub one : Bool → Standing → List ℕ → Standing
unfolding laid written_as
one t s line =
    let w = written_as (answer_by Alone t s.book line) in
    record { book = bytes_by Alone t s.book line; out = laid s.out s.written w; read = s.read + (length line + 1); written = s.written + length w }

-- line by line, while there is room for an answer
unfoldable pub many : Bool → List (List ℕ) → Standing → Standing
unfolding one
many t [] s = s
many t (l ∷ ls) s = cond (room s) (many t ls (one t s l)) s

-- an answer written at an index, where there is room for any; r is where the next one goes
pub record Put (before : List ℕ) (at : ℕ) (a : Answer) (r : ℕ) (after : List ℕ) : Type 0 where
  pub whole : after ≡ laid before at (written_as a)
  pub next : r ≡ at + length (written_as a)
  pub few : r ≤ length after
  pub narrow : r ≤ at + 33

abbrev pub standing : List ℕ → List ℕ → ℕ → ℕ → Standing
standing b out read written = record { book = b; out = out; read = read; written = written }

-- one line answered over a book that was found to be sound, or not to be, and the answer written
pub record Turn (t : Bool) (before line out : List ℕ) (at r : ℕ) (after out' : List ℕ) : Type 0 where
  pub turned : (k : ℕ) → one t (standing before out k at) line ≡ standing after out' (k + (length line + 1)) r
  pub few : r ≤ length out'
  pub narrow : r ≤ at + 33

-- a step over the ended lines of a text
pub record AnsweredBy (t : Bool) (before text out : List ℕ) (r : Progress) (after out' : List ℕ) : Type 0 where
  pub whole : standing after out' r.read r.written ≡ many t (ended text) (standing before out 0 0)
  pub inside : r.read ≤ length text
  pub few : r.written ≤ length out'
  -- a line has at least one byte with its byte 10, and its answer at most 33
  pub narrow : r.written ≤ 33 * r.read

-- over any book
abbrev pub Answered : List ℕ → List ℕ → List ℕ → Progress → List ℕ → List ℕ → Type 0
Answered before text out r after out' = AnsweredBy (sound before) before text out r after out'
