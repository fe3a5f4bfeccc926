-- What a line does to a book: its answer and the bytes after it. Assumes nothing.
use Rattle.std.specs.Prelude.{ℕ, ◌≤◌, ◌≡◌, Bool, true, cond, List, Option, Some, None, is_some, Result, Ok, Err}
use Rattle.meaning.specs.Reading.{numbers_read}
use Rattle.meaning.specs.Refusals.{wrong, refusal}
use Rattle.meaning.specs.Edits as meant
use Rattle.meaning.specs.Status.{answer_to}
use Rattle.meaning.specs.Lone.{elsewhere, taken}
use Rattle.meaning.specs.declared.Wishes.{Wishes}
use Rattle.meaning.specs.declared.Answer.{Answer}
use Rattle.meaning.specs.declared.Answer.TheVariants.{Taken, Refused}
use Rattle.meaning.specs.declared.Refusal.{Refusal}
use Rattle.meaning.specs.declared.Refusal.TheVariants.{UnsoundBook, BadField, OtherDepository}
use Rattle.meaning.specs.declared.Sent.{Sent}
use Rattle.commands.specs.Asked.{asked, question_asked, letter_for, command_from}
use Rattle.commands.specs.declared.Question.{Question}
use Rattle.commands.specs.declared.What.{What}
use Rattle.commands.specs.declared.Command.{Command}
use Rattle.book.specs.Lone.{lone_book}
use Rattle.book.specs.Sound.{sound}
use Rattle.edits.specs.Edit.{edit_in}
use Rattle.edits.specs.Leaves.{Leaves}
use Rattle.judge.specs.Stages.{judged_by}
use Rattle.line.specs.Line.{line_of}
use Rattle.line.specs.declared.reading.Line.{Line}
use Rattle.answering.specs.Promise.{SubmittedAs}

-- a refusal is an answer too
abbrev pub as_answer : Result Answer Refusal → Answer
as_answer (Ok x) = x
as_answer (Err r) = Refused r

-- ---- a command

-- the first refusal of those that read the lists or compare days, if one holds
unfoldable pub refusal_of : List ℕ → Command → Option Refusal
refusal_of b c = refusal (lone_book c.csd b) (asked c)

-- what is replied where none holds, over the book as it is: a question's verdict, and the status where it carries the
-- wishes; or K
unfoldable pub replied_to : List ℕ → Option (Question × Wishes) → Answer
replied_to b None = Taken
replied_to b (Some (q, w)) = answer_to (judged_by b q) w

unfoldable pub reply_to : List ℕ → What → Answer
unfolding replied_to
reply_to b w = replied_to b (question_asked w)

-- the refusal where one holds
abbrev pub refused_or : Answer → Option Refusal → Answer
refused_or x None = x
refused_or x (Some r) = Refused r

unfoldable pub answer_of : List ℕ → Command → Answer
answer_of b c = refused_or (reply_to b c.what) (refusal_of b c)

-- a refusal leaves every byte, and so does a question's edit
unfoldable pub bytes_after : List ℕ → Command → List ℕ
bytes_after b c = cond (is_some (refusal_of b c)) b (edit_in b c.csd (asked c))

-- a command as a line that is read asks it, over a sound book: of a depository, in range, and a question is that
-- depository's
pub record Ready (b : List ℕ) (c : Command) : Type 0 where
  pub book : sound b ≡ true
  pub low : 1 ≤ c.csd
  pub high : c.csd ≤ 8
  pub fits : meant.fits (asked c) ≡ true
  pub own : (q : Question) (w : Wishes) → question_asked c.what ≡ Some (q, w) → q.csd ≡ c.csd

-- what the meaning says of it over the depository's lone book: the answer, and what is left of every lone book; and the
-- book stays sound
pub record Meant (before : List ℕ) (c : Command) (answer : Answer) (after : List ℕ) : Type 0 where
  pub answered : answer ≡ (taken (lone_book c.csd before) (asked c)).answer
  pub left : Leaves before after c.csd (taken (lone_book c.csd before) (asked c)).book
  pub stays : sound after ≡ true

pub record Took (before : List ℕ) (c : Command) (answer : Answer) (after : List ℕ) : Type 0 where
  pub answered : answer ≡ answer_of before c
  pub bytes : after ≡ bytes_after before c
  pub meant : Ready before c → Meant before c answer after

-- ---- any line

-- what a line that was read asks
abbrev pub command_in : Line → Command
command_in l = command_from (letter_for l.letter) l.values

-- whether the depository that it names is another than its batch's
abbrev pub is_elsewhere : Sent → Line → Bool
is_elsewhere how l = elsewhere how (command_in l).csd

-- refusals 2 to 5, the last of which may lie in the whole command; then 12; or what is answered to it
unfoldable pub answer_read : Sent → List ℕ → Result Line Refusal → Answer
answer_read how b (Err r) = Refused r
answer_read how b (Ok l) =
    cond (wrong (asked (command_in l))) (Refused BadField) (cond (is_elsewhere how l) (Refused OtherDepository) (answer_of b (command_in l)))

unfoldable pub bytes_read : Sent → List ℕ → Result Line Refusal → List ℕ
bytes_read how b (Err r) = b
bytes_read how b (Ok l) =
    cond (wrong (asked (command_in l))) b (cond (is_elsewhere how l) b (bytes_after b (command_in l)))

-- over a book that is sound, or is not
unfoldable pub answer_by : Sent → Bool → List ℕ → List ℕ → Answer
answer_by how s b line = cond s (answer_read how b (line_of (numbers_read line))) (Refused UnsoundBook)

unfoldable pub bytes_by : Sent → Bool → List ℕ → List ℕ → List ℕ
bytes_by how s b line = cond s (bytes_read how b (line_of (numbers_read line))) b

pub record Answers (how : Sent) (s : Bool) (before line : List ℕ) (answer : Answer) (after : List ℕ) : Type 0 where
  pub answered : answer ≡ answer_by how s before line
  pub bytes : after ≡ bytes_by how s before line
  -- where the book is as it was said to be, this is what `submit` promises of a line sent so
  pub promise : s ≡ sound before → SubmittedAs how before line answer after
