-- What `submit_batch` (crate `batches`) promises, for any bytes as the book, the text and the answer space: a batch of
-- lines from one depository is taken in order, each line as if it was sent singly, but for 12 (document 02, request a).
-- Assumes nothing.
use Rattle.std.specs.Prelude.{ℕ, ◌≤◌, ◌≡◌, Bool, false, cond, not, List, [], ◌∷◌, Result, Err, eqb, length}
use Rattle.tables.specs.Count.{keep}
use Rattle.meaning.specs.Desk.{lines_of}
use Rattle.meaning.specs.SameBook.{SameBook}
use Rattle.meaning.specs.Batch.{fits, batch_result, batch_lines, space_after}
use Rattle.meaning.specs.Lone.{told}
use Rattle.meaning.specs.declared.Answer.{Answer}
use Rattle.meaning.specs.declared.Answer.TheVariants.{Taken, Refused, Judged, WithStatus}
use Rattle.meaning.specs.declared.Refusal.{Refusal}
use Rattle.meaning.specs.declared.Refusal.TheVariants.{BatchTooLarge}
use Rattle.meaning.specs.Refusals.{number_of}
use Rattle.meaning.specs.declared.Sent.{Sent}
use Rattle.meaning.specs.declared.Sent.TheVariants.{Alone, InBatch}
use Rattle.book.specs.Lone.{lone_book}
use Rattle.precheck.specs.Promise.{SubmittedAs}

-- lines sent one after the other, each told how, with their answers, from one book to another: each step is exactly
-- what is promised of a line sent so. A refused line does not stop the rest.
pub data Steps : List ℕ → List (Sent × List ℕ) → List Answer → List ℕ → Type 0 where
  stop : {book : List ℕ} → Steps book [] [] book
  next : {book between line after : List ℕ} {how : Sent} {answer : Answer} {lines : List (Sent × List ℕ)}
      {answers : List Answer} → SubmittedAs how book line answer between → Steps between lines answers after
      → Steps book ((how, line) ∷ lines) (answer ∷ answers) after

pub record Batched (before : List ℕ) (csd : ℕ) (text space : List ℕ) (r : Result ℕ Refusal) (after space' : List ℕ) : Type 0 where
  -- 11, before anything else, where the batch has over 64 lines or its answer space is under 32 bytes a line; else how
  -- many lines it has
  pub result : r ≡ batch_result text (length space)
  -- line after line in the order of the text; no line, and so the book as it was, where the batch is refused 11
  pub answers : List Answer
  pub taken : Steps before (told (InBatch csd) (batch_lines text (length space))) answers after
  -- answer i stands at byte 32 × i, zeros fill its 32 bytes, and later space is untouched
  pub written : space' ≡ space_after answers space

-- ---- the same lines sent singly

-- whether an answer is refusal 12
unfoldable pub is_twelve : Answer → Bool
is_twelve Taken = false
is_twelve (Refused r) = eqb (number_of r) 12
is_twelve (Judged v) = false
is_twelve (WithStatus v s) = false

-- the lines that are not refused 12
unfoldable pub lines_taken : List (List ℕ) → List Answer → List (List ℕ)
unfolding is_twelve
lines_taken [] as' = []
lines_taken (line ∷ lines) [] = []
lines_taken (line ∷ lines) (x ∷ as') = cond (is_twelve x) (lines_taken lines as') (line ∷ lines_taken lines as')

-- 'its answers and book equal those of the same lines sent singly, those refused 12 left out'
abbrev pub AsSingly : Type 0
AsSingly =
    (before : List ℕ) (csd : ℕ) (lines : List (List ℕ)) (answers : List Answer) (after : List ℕ)
    → Steps before (told (InBatch csd) lines) answers after
    → Steps before (told Alone (lines_taken lines answers)) (keep (λ x. not (is_twelve x)) answers) after

-- and whoever sends those lines singly to the same book gets no other answers, and leaves the same records of every
-- depository
pub record Alike (answers others : List Answer) (after left : List ℕ) : Type 0 where
  pub answered : others ≡ answers
  pub records : (c : ℕ) → 1 ≤ c → c ≤ 8 → SameBook (lone_book c left) (lone_book c after)

abbrev pub SinglyAlike : Type 0
SinglyAlike =
    (before : List ℕ) (csd : ℕ) (lines : List (List ℕ)) (answers others : List Answer) (after left : List ℕ)
    → Steps before (told (InBatch csd) lines) answers after
    → Steps before (told Alone (lines_taken lines answers)) others left
    → Alike (keep (λ x. not (is_twelve x)) answers) others after left

-- ---- a batch that is refused 11

-- 'no line is taken and nothing is written'
pub record Untouched (before space : List ℕ) (r : Result ℕ Refusal) (after space' : List ℕ) : Type 0 where
  pub eleven : r ≡ Err BatchTooLarge
  pub book : after ≡ before
  pub lent : space' ≡ space

abbrev pub NothingWritten : Type 0
NothingWritten =
    (before : List ℕ) (csd : ℕ) (text space : List ℕ) (r : Result ℕ Refusal) (after space' : List ℕ)
    → Batched before csd text space r after space' → fits (length (lines_of text)) (length space) ≡ false
    → Untouched before space r after space'
