-- What `submit` (crate `precheck`) promises, for any bytes as the book and any bytes as the line: demands 1 and 2. The
-- same is promised of each line of a batch (document 02, request a). Assumes nothing.
use Rattle.std.specs.Prelude.{ℕ, ◌≤◌, ◌≡◌, Bool, true, cond, not, ◌||◌, List}
use Rattle.meaning.specs.Records as M
use Rattle.meaning.specs.SameBook.{SameBook}
use Rattle.meaning.specs.Lone.{step_sent, keeps, names, depository}
use Rattle.meaning.specs.declared.Answer.{Answer}
use Rattle.meaning.specs.declared.Answer.TheVariants.{Refused}
use Rattle.meaning.specs.declared.Refusal.TheVariants.{UnsoundBook}
use Rattle.meaning.specs.declared.Sent.{Sent}
use Rattle.meaning.specs.declared.Sent.TheVariants.{Alone}
use Rattle.book.specs.Lone.{lone_book}
use Rattle.book.specs.Sound.{sound}

-- 1 over a book that isn't sound; else the meaning's answer, told how the line was sent, over the lone book of the
-- depository that the line names. A line that names none is refused 2 to 5, whatever the book.
unfoldable pub answer_in : Sent → List ℕ → List ℕ → Answer
answer_in how b line = cond (sound b) (step_sent how (lone_book (depository line) b) line).answer (Refused UnsoundBook)

-- depository c's records after the line: as the meaning leaves them if the line names c, else as they were
unfoldable pub lone_after : Sent → ℕ → List ℕ → List ℕ → M.Book
lone_after how c b line = cond (names c line) (step_sent how (lone_book c b) line).book (lone_book c b)

-- a refused line, or a question: any line over a book that isn't sound; over a sound one as the lone book of the
-- depository that the line names tells
unfoldable pub left_as_found : Sent → List ℕ → List ℕ → Bool
left_as_found how b line = not (sound b) || keeps how (lone_book (depository line) b) line

-- of a line, told how it was sent
pub record SubmittedAs (how : Sent) (before line : List ℕ) (answer : Answer) (after : List ℕ) : Type 0 where
  -- one answer: a result, or the earliest refusal whose condition holds
  pub answered : answer ≡ answer_in how before line
  -- a refused line, or a question, leaves every byte
  pub kept : left_as_found how before line ≡ true → after ≡ before
  -- a sound book stays sound
  pub stays : sound before ≡ true → sound after ≡ true
  -- and holds, of every depository, exactly the records that demand 2 gives
  pub records : sound before ≡ true → (c : ℕ) → 1 ≤ c → c ≤ 8
      → SameBook (lone_book c after) (lone_after how c before line)

-- of a line sent alone
abbrev pub Submitted : List ℕ → List ℕ → Answer → List ℕ → Type 0
Submitted = SubmittedAs Alone
