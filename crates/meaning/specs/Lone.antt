-- The lone book's answers to a list of lines (document 01, 'One depository alone'), each of which was sent alone or in
-- a batch of a depository (document 02, request a). Assumes nothing.
use Rattle.std.specs.Prelude.{ℕ, ◌+◌, ◌-◌, Bool, true, false, cond, not, ◌&&◌, ◌||◌, List, [], ◌∷◌, map, eqb, get_or, Option, Some, None, is_some}
use Rattle.tables.specs.Count.{keep}
use Rattle.meaning.specs.Text.{same}
use Rattle.meaning.specs.Fields.{within, fields}
use Rattle.meaning.specs.Records.{◌!◌, Book, empty, Question, Command, command_of, question_in}
use Rattle.meaning.specs.Reading.{Reading, refused, asks, reading}
use Rattle.meaning.specs.Refusals.{refusal_sent}
use Rattle.meaning.specs.Edits.{edited}
use Rattle.meaning.specs.Judging.{judged}
use Rattle.meaning.specs.Status.{answer_to}
use Rattle.meaning.specs.declared.Refusal.{Refusal}
use Rattle.meaning.specs.declared.Wishes.{Wishes}
use Rattle.meaning.specs.declared.Answer.{Answer}
use Rattle.meaning.specs.declared.Answer.TheVariants.{Taken, Refused}
use Rattle.meaning.specs.declared.Sent.{Sent}
use Rattle.meaning.specs.declared.Sent.TheVariants.{Alone, InBatch}

-- whether a line of depository csd, sent so, names another depository than its batch
unfoldable pub elsewhere : Sent → ℕ → Bool
elsewhere Alone csd = false
elsewhere (InBatch c) csd = not (eqb csd c)

-- a question is answered with its verdict, which its wishes do not alter, and the status where it carries them; any
-- other command with K
unfoldable pub replied : Book → Option (Question × Wishes) → Answer
unfolding judged answer_to
replied b None = Taken
replied b (Some (q, w)) = answer_to (judged b q) w

-- what a command that is not refused answers
unfoldable pub reply : Book → Command → Answer
unfolding replied
reply b k = replied b (question_in k)

-- the answer to a line, and the book after it
pub record Step : Type 0 where
  pub answer : Answer
  pub book : Book

-- by the command's refusal, if it has one: the first that holds is the answer, and the lists stay
unfoldable pub unless : Option Refusal → Book → Command → Step
unfolding reply edited
unless None b k = record { answer = reply b k; book = edited b k }
unless (Some r) b k = record { answer = Refused r; book = b }

-- what is read, told whether it names another depository than its batch
unfoldable pub taken_sent : Bool → Book → Command → Step
unfolding unless refusal_sent
taken_sent e b k = unless (refusal_sent e b k) b k

unfoldable pub taken : Book → Command → Step
unfolding taken_sent
taken b k = taken_sent false b k

unfoldable pub after_reading : Sent → Book → Reading → Step
unfolding taken_sent command_of elsewhere
after_reading how b (refused r) = record { answer = Refused r; book = b }
after_reading how b (asks l v) = taken_sent (elsewhere how (v ! 0)) b (command_of l v)

abbrev pub is_question : Command → Bool
is_question k = is_some (question_in k)

-- whether what is read leaves the lists as they are: it is refused, or it is a question
unfoldable pub keeps_read : Sent → Book → Reading → Bool
unfolding refusal_sent command_of elsewhere
keeps_read how b (refused r) = true
keeps_read how b (asks l v) =
    is_some (refusal_sent (elsewhere how (v ! 0)) b (command_of l v)) || is_question (command_of l v)

unfoldable pub keeps : Sent → Book → List ℕ → Bool
unfolding keeps_read reading
keeps how b line = keeps_read how b (reading line)

-- each line is tested for the refusals from 2 on, in their order
unfoldable pub step_sent : Sent → Book → List ℕ → Step
unfolding after_reading reading
step_sent how b line = after_reading how b (reading line)

-- sent alone
unfoldable pub step : Book → List ℕ → Step
unfolding step_sent
step b line = step_sent Alone b line

-- the answers to a list of lines, each told how it was sent
unfoldable pub answers_sent : Book → List (Sent × List ℕ) → List Answer
unfolding step_sent
answers_sent b [] = []
answers_sent b (l ∷ ls) = let s = step_sent l.0 b l.1 in s.answer ∷ answers_sent s.book ls

-- and the book after them
unfoldable pub after_sent : Book → List (Sent × List ℕ) → Book
unfolding step_sent
after_sent b [] = b
after_sent b (l ∷ ls) = after_sent (step_sent l.0 b l.1).book ls

-- lines, each sent so
abbrev pub told : Sent → List (List ℕ) → List (Sent × List ℕ)
told how = map (λ line. (how, line))

-- the answers to lines sent alone
unfoldable pub answers_from : Book → List (List ℕ) → List Answer
unfolding answers_sent step
answers_from b lines = answers_sent b (told Alone lines)

-- the book after them
unfoldable pub after : Book → List (List ℕ) → Book
unfolding after_sent step
after b lines = after_sent b (told Alone lines)

-- the answers of the lone book, all of whose lists are empty at first
unfoldable pub answers : List (List ℕ) → List Answer
unfolding answers_from
answers = answers_from empty

-- a line whose second field is the depository's digit names it
unfoldable pub names : ℕ → List ℕ → Bool
unfolding fields
names csd line = same (get_or (fields line) 1 []) ((48 + csd) ∷ [])

-- the number of a field that is one of the digits 1 to 8; 0 for any other
abbrev pub digit : List ℕ → ℕ
digit [] = 0
digit (c ∷ []) = cond (within 49 56 c) (c - 48) 0
digit (c ∷ d ∷ cs) = 0

-- the depository that a line names; 0 where it names none
unfoldable pub depository : List ℕ → ℕ
unfolding fields
depository line = digit (get_or (fields line) 1 [])

-- what the depository's lone book, fed only the lines naming it, answers
unfoldable pub lone_answers : ℕ → List (List ℕ) → List Answer
unfolding keep names answers
lone_answers csd lines = answers (keep (names csd) lines)

-- a line counts as the depository's if it names it and did not come in a batch of another
unfoldable pub counts : ℕ → Sent × List ℕ → Bool
unfolding names elsewhere
counts csd l = not (elsewhere l.0 csd) && names csd l.1

-- what the depository's lone book, all of whose lists are empty at first, answers, fed only the lines that count as
-- its own and told how each was sent
unfoldable pub lone_answers_sent : ℕ → List (Sent × List ℕ) → List Answer
unfolding keep counts answers_sent
lone_answers_sent csd ls = answers_sent empty (keep (counts csd) ls)
