-- What a trainer may say of the status (document 02, request b). Stated here, proved in proofs/Holding; examples 1 to 6
-- of source document 004's 'Description of requested change' are in proofs/HoldExamples. Assumes nothing.
use Rattle.std.specs.Prelude.{ℕ, ◌≡◌, Bool, true, false, List, [], ◌∷◌, ◌++◌, ◌⊎◌, length, Some}
use Rattle.meaning.specs.Fields.{fields}
use Rattle.meaning.specs.Forms.{letter_q}
use Rattle.meaning.specs.Records.{Rule, Book, Question, wish_of, command_of, ask}
use Rattle.meaning.specs.Reading.{reading}
use Rattle.meaning.specs.Judging.{rejected, judged}
use Rattle.meaning.specs.Status.{is_on, wished, status}
use Rattle.meaning.specs.Lone.{elsewhere, depository, step_sent, after_sent}
use Rattle.meaning.specs.Printing.{printed, status_text}
use Rattle.meaning.specs.Exercise.{command_read, Moves}
use Rattle.meaning.specs.declared.Verdict.{Verdict}
use Rattle.meaning.specs.declared.Wishes.{Wishes}
use Rattle.meaning.specs.declared.Answer.TheVariants.{Judged, WithStatus}
use Rattle.meaning.specs.declared.Sent.{Sent}

-- The status is Y whenever the party hold is on: no indicator and no default undoes a rule's hold.
abbrev pub HeldByRule : Type 0
HeldByRule =
    (b : Book) (q : Question) (w : Wishes) → is_on (judged b q).party ≡ true → status (judged b q) w ≡ true

-- Where the party hold is off and nothing rejects, the wishes decide. So a negative rule, which exempts from rules
-- alone, undoes no wish (source document 004, example 4), and a validation hold does not count (example 5).
abbrev pub WishesDecide : Type 0
WishesDecide =
    (v : Verdict) (w : Wishes) → rejected v ≡ false → is_on v.party ≡ false → status v w ≡ wished w

-- A rejection gives N, whatever was wished for.
abbrev pub RejectedGivesN : Type 0
RejectedGivesN = (v : Verdict) (w : Wishes) → rejected v ≡ true → status v w ≡ false

-- A line that asks a question, and names the depository of its batch where it comes in one, has 12 fields with its
-- letter and is answered with its verdict alone, or 14 and is answered with the verdict and the status.
pub record ByLength (how : Sent) (b : Book) (line : List ℕ) (q : Question) (w : Wishes) : Type 0 where
  pub lengths : (length (fields line) ≡ 12) ⊎ (length (fields line) ≡ 14)
  pub shorter : length (fields line) ≡ 12 → (step_sent how b line).answer ≡ Judged (judged b q)
  pub longer : length (fields line) ≡ 14 → (step_sent how b line).answer ≡ WithStatus (judged b q) (status (judged b q) w)

abbrev pub StatusByLength : Type 0
StatusByLength =
    (how : Sent) (b : Book) (line : List ℕ) (q : Question) (w : Wishes) → elsewhere how (depository line) ≡ false
    → command_read (reading line) ≡ Some (ask q w) → ByLength how b line q w

-- Eleven numbers with an indicator and a default behind them ask the same question, so that the verdict is the same.
abbrev pub SameQuestion : Type 0
SameQuestion =
    (v : List ℕ) (indicator default : ℕ) (q : Question) (w : Wishes) → length v ≡ 11 → command_of letter_q v ≡ ask q w
    → command_of letter_q (v ++ (indicator ∷ default ∷ []))
    ≡ ask q (record { indicator = wish_of indicator; default = wish_of default })

-- The longer answer is the shorter one with the status behind it.
abbrev pub StatusLast : Type 0
StatusLast = (v : Verdict) (s : Bool) → printed (WithStatus v s) ≡ printed (Judged v) ++ status_text s

-- A rule moved to another sequence alters no status.
abbrev pub StatusStays : Type 0
StatusStays =
    (b : Book) (r : Rule) (new : ℕ) (lines : List (Sent × List ℕ)) → Moves b r new lines → (q : Question) (w : Wishes)
    → status (judged (after_sent b lines) q) w ≡ status (judged b q) w
