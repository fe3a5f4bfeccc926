-- DEMAND 3: one depository alone. For every list of calls, single lines and batches in any mix, sent one by one to a
-- book just emptied: the answers to the lines that count as depository A's are exactly those of A's lone book, which is
-- fed only these lines and told how each was sent. Stated here, proved in proofs/Alone and proofs/Runs. Assumes
-- nothing.
use Rattle.std.specs.Prelude.{ℕ, ◌≤◌, ◌≡◌, Bool, cond, List, [], ◌∷◌, ◌++◌, map, Result, Ok, length}
use Rattle.tables.specs.Count.{keep}
use Rattle.meaning.specs.Batch.{batch_lines}
use Rattle.meaning.specs.Lone.{told, names, counts, lone_answers, lone_answers_sent}
use Rattle.meaning.specs.Nobody.{NamesNobody}
use Rattle.meaning.specs.Status.{status_in}
use Rattle.meaning.specs.declared.Answer.{Answer}
use Rattle.meaning.specs.declared.Answer.TheVariants.{Refused}
use Rattle.meaning.specs.declared.Refusal.{Refusal}
use Rattle.meaning.specs.declared.Refusal.TheVariants.{UnsoundBook}
use Rattle.meaning.specs.Refusals.{number_of}
use Rattle.meaning.specs.declared.Sent.{Sent}
use Rattle.meaning.specs.declared.Sent.TheVariants.{Alone, InBatch}
use Rattle.book.specs.Emptied.{Emptied}
use Rattle.book.specs.Sound.{sound}
use Rattle.precheck.specs.Promise.{SubmittedAs, Submitted}
use Rattle.precheck.specs.Batch.{Batched}

-- what is sent: a line, or a text as a batch of a depository with the size of its answer space. Both are any bytes.
pub data Call : Type 0 where
  single : List ℕ → Call
  batch : ℕ → List ℕ → ℕ → Call

-- a call stands as lines, each told how it was sent: a batch as its lines, one that is refused 11 as none
unfoldable pub stands : Call → List (Sent × List ℕ)
unfolding batch_lines
stands (single line) = (Alone, line) ∷ []
stands (batch csd text space) = told (InBatch csd) (batch_lines text space)

-- all that the calls stand as
unfoldable pub stood : List Call → List (Sent × List ℕ)
unfolding stands
stood [] = []
stood (call ∷ calls) = stands call ++ stood calls

-- calls sent one by one to a book, and the answers to the lines that they stand as: each step is exactly what `submit`,
-- or `submit_batch`, promises
pub data Run : List ℕ → List Call → List Answer → Type 0 where
  done : {book : List ℕ} → Run book [] []
  sent : {book next line : List ℕ} {answer : Answer} {calls : List Call} {answers : List Answer}
      → Submitted book line answer next → Run next calls answers → Run book (single line ∷ calls) (answer ∷ answers)
  batched : {book next text space space' : List ℕ} {csd size : ℕ} {r : Result ℕ Refusal} {calls : List Call}
      {answers : List Answer} → length space ≡ size → (b : Batched book csd text space r next space')
      → Run next calls answers → Run book (batch csd text size ∷ calls) (b.answers ++ answers)

-- the answers at the lines that pass a test
unfoldable pub answers_at : {L : Type 0} → (L → Bool) → List L → List Answer → List Answer
answers_at p [] as' = []
answers_at p (line ∷ lines) [] = []
answers_at p (line ∷ lines) (x ∷ as') = cond (p line) (x ∷ answers_at p lines as') (answers_at p lines as')

-- The claim, about the whole list. A line that names a in a batch of another is one of the other lines.
abbrev pub OneAlone : Type 0
OneAlone =
    (lent emptied : List ℕ) → Emptied lent emptied (Ok tt)
    → (calls : List Call) (answers : List Answer) → Run emptied calls answers
    → (a : ℕ) → 1 ≤ a → a ≤ 8
    → answers_at (counts a) (stood calls) answers ≡ lone_answers_sent a (stood calls)

-- Its consequence for two runs: where the lines that count as a depository's, and how each was sent, are alike, so are
-- its answers, whatever the other lines.
abbrev pub TwoRuns : Type 0
TwoRuns =
    (lent lent' emptied emptied' : List ℕ) → Emptied lent emptied (Ok tt) → Emptied lent' emptied' (Ok tt)
    → (calls calls' : List Call) (answers answers' : List Answer)
    → Run emptied calls answers → Run emptied' calls' answers'
    → (a : ℕ) → 1 ≤ a → a ≤ 8
    → keep (counts a) (stood calls) ≡ keep (counts a) (stood calls')
    → answers_at (counts a) (stood calls) answers ≡ answers_at (counts a) (stood calls') answers'

-- ---- the status (document 02, request b)

-- The claim for the status, the last part of an answer: a depository's statuses, line by line, are those of its lone
-- book,
abbrev pub StatusAlone : Type 0
StatusAlone =
    (lent emptied : List ℕ) → Emptied lent emptied (Ok tt)
    → (calls : List Call) (answers : List Answer) → Run emptied calls answers
    → (a : ℕ) → 1 ≤ a → a ≤ 8
    → map status_in (answers_at (counts a) (stood calls) answers) ≡ map status_in (lone_answers_sent a (stood calls))

-- and a neighbour cannot alter them: where the lines that count as a depository's, and how each was sent, are alike in
-- two runs, so are the statuses of its answers.
abbrev pub NeighbourStatus : Type 0
NeighbourStatus =
    (lent lent' emptied emptied' : List ℕ) → Emptied lent emptied (Ok tt) → Emptied lent' emptied' (Ok tt)
    → (calls calls' : List Call) (answers answers' : List Answer)
    → Run emptied calls answers → Run emptied' calls' answers'
    → (a : ℕ) → 1 ≤ a → a ≤ 8
    → keep (counts a) (stood calls) ≡ keep (counts a) (stood calls')
    → map status_in (answers_at (counts a) (stood calls) answers)
    ≡ map status_in (answers_at (counts a) (stood calls') answers')

-- ---- the case without batches

-- lines as calls
abbrev pub singles : List (List ℕ) → List Call
singles = map single

-- the answers at the lines that name depository a
abbrev pub answers_to : ℕ → List (List ℕ) → List Answer → List Answer
answers_to a = answers_at (names a)

abbrev pub OneAloneLines : Type 0
OneAloneLines =
    (lent emptied : List ℕ) → Emptied lent emptied (Ok tt)
    → (lines : List (List ℕ)) (answers : List Answer) → Run emptied (singles lines) answers
    → (a : ℕ) → 1 ≤ a → a ≤ 8
    → answers_to a lines answers ≡ lone_answers a lines

abbrev pub TwoRunsLines : Type 0
TwoRunsLines =
    (lent lent' emptied emptied' : List ℕ) → Emptied lent emptied (Ok tt) → Emptied lent' emptied' (Ok tt)
    → (lines lines' : List (List ℕ)) (answers answers' : List Answer)
    → Run emptied (singles lines) answers → Run emptied' (singles lines') answers'
    → (a : ℕ) → 1 ≤ a → a ≤ 8
    → keep (names a) lines ≡ keep (names a) lines'
    → answers_to a lines answers ≡ answers_to a lines' answers'

-- ---- there is a run, and its answers are fixed

-- There is a run of every list of calls over every book, so that the claim about all of them speaks of one.
pub record Ran (book : List ℕ) (calls : List Call) : Type 0 where
  pub answers : List Answer
  pub run : Run book calls answers

abbrev pub SomeRun : Type 0
SomeRun = (book : List ℕ) (calls : List Call) → Ran book calls

-- And no two differ, at lines that name nobody either.
abbrev pub OneAnswer : Type 0
OneAnswer =
    (book : List ℕ) (calls : List Call) (answers answers' : List Answer)
    → Run book calls answers → Run book calls answers' → answers ≡ answers'

-- A line that names nobody is refused 2 to 5 over every sound book, always alike, however it is sent; over any other 1.
-- Every byte is left.
pub record Nobodys (line : List ℕ) : Type 0 where
  pub refusal : Refusal
  pub low : 2 ≤ number_of refusal
  pub high : number_of refusal ≤ 5
  pub answered : (how : Sent) (before after : List ℕ) (answer : Answer) → SubmittedAs how before line answer after
      → answer ≡ cond (sound before) (Refused refusal) (Refused UnsoundBook)
  pub kept : (how : Sent) (before after : List ℕ) (answer : Answer) → SubmittedAs how before line answer after
      → after ≡ before

abbrev pub NobodysLine : Type 0
NobodysLine = (line : List ℕ) → NamesNobody line → Nobodys line
