-- A line that names no depository is refused 2 to 5, whatever the book: the csd of every letter of the table is 1 to 8.
-- Stated here, proved in proofs/Nobody. Assumes nothing.
use Rattle.std.specs.Prelude.{ℕ, ◌≤◌, ◌≡◌, false, List}
use Rattle.meaning.specs.Records.{Book}
use Rattle.meaning.specs.Lone.{step_sent, names}
use Rattle.meaning.specs.Refusals.{number_of}
use Rattle.meaning.specs.declared.Answer.TheVariants.{Refused}
use Rattle.meaning.specs.declared.Refusal.{Refusal}
use Rattle.meaning.specs.declared.Sent.{Sent}

-- the line names none of depositories 1 to 8
abbrev pub NamesNobody : List ℕ → Type 0
NamesNobody line = (c : ℕ) → 1 ≤ c → c ≤ 8 → names c line ≡ false

-- the line has a refusal of its own, 2 to 5: however it is sent, every lone book gives it and stays
pub record Unread (line : List ℕ) : Type 0 where
  pub refusal : Refusal
  pub low : 2 ≤ number_of refusal
  pub high : number_of refusal ≤ 5
  pub everywhere : (how : Sent) (b : Book) → step_sent how b line ≡ record { answer = Refused refusal; book = b }

abbrev pub NobodyRefused : Type 0
NobodyRefused = (line : List ℕ) → NamesNobody line → Unread line
