-- A line in a batch: one of the batch's depository is answered as if sent alone, one of another gets 12 and leaves the
-- lists.
use Rattle.std.proofs.Common.{ℕ, ◌≡◌, refl, ap, sym, ◌∙◌, Bool, true, false, List, ◌⊎◌, inl, inr}
use Rattle.meaning.specs.Forms.{Letter}
use Rattle.meaning.specs.Records.{◌!◌, Book, Command, command_of}
use Rattle.meaning.specs.Reading.{Reading, refused, asks, reading}
use Rattle.meaning.specs.Refusals.{refusal_sent, refusal}
use Rattle.meaning.specs.Lone.{Step, elsewhere, taken_sent, taken, after_reading, keeps_read, keeps, step_sent, step, depository}
use Rattle.meaning.specs.declared.Answer.TheVariants.{Refused}
use Rattle.meaning.specs.declared.Refusal.{Refusal}
use Rattle.meaning.specs.declared.Refusal.TheVariants.{OtherDepository}
use Rattle.meaning.specs.declared.Sent.{Sent}
use Rattle.meaning.specs.declared.Sent.TheVariants.{Alone}
use Rattle.tables.proofs.Counts.{cases}
use Rattle.meaning.proofs.Names.{reading_depository}

-- refusal 12 comes before all that reads the lists
abbrev pub refused12 : Book → Step
refused12 b = record { answer = Refused OtherDepository; book = b }

pub refusal_here : (e : Bool) (b : Book) (k : Command) → e ≡ false → refusal_sent e b k ≡ refusal b k
unfolding refusal
refusal_here e b k f = ap (λ z. refusal_sent z b k) f

pub taken_here : (e : Bool) (b : Book) (k : Command) → e ≡ false → taken_sent e b k ≡ taken b k
unfolding taken
taken_here e b k f = ap (λ z. taken_sent z b k) f

pub taken_elsewhere : (e : Bool) (b : Book) (k : Command) → e ≡ true → taken_sent e b k ≡ refused12 b
unfolding taken_sent
taken_elsewhere e b k f = ap (λ z. taken_sent z b k) f

-- ---- a line that is read

module _ (how : Sent) (b : Book) (line : List ℕ) (l : Letter) (v : List ℕ) (e : reading line ≡ asks l v) where
  pub read_sent : step_sent how b line ≡ taken_sent (elsewhere how (v ! 0)) b (command_of l v)
  unfolding step_sent after_reading
  read_sent = rw e

-- ---- any line

module _ (how : Sent) (b : Book) (line : List ℕ) where
  here : (r : Reading) → reading line ≡ r → elsewhere how (depository line) ≡ false
      → after_reading how b r ≡ after_reading Alone b r
  unfolding after_reading taken
  here (refused r) e f = refl
  here (asks l v) e f =
      taken_here (elsewhere how (v ! 0)) b (command_of l v)
      (ap (elsewhere how) (sym (reading_depository line l v e)) ∙ f)

  -- a line of the batch's depository is answered as if sent alone
  pub sent_here : elsewhere how (depository line) ≡ false → step_sent how b line ≡ step b line
  unfolding step step_sent
  sent_here f = here (reading line) refl f

  away : (r : Reading) → reading line ≡ r → elsewhere how (depository line) ≡ true → (after_reading how b r).book ≡ b
  unfolding after_reading
  away (refused r) e f = refl
  away (asks l v) e f =
      ap (λ s. s.book)
      (taken_elsewhere (elsewhere how (v ! 0)) b (command_of l v)
      (ap (elsewhere how) (sym (reading_depository line l v e)) ∙ f))

  -- one of another depository leaves the lists
  pub sent_away : elsewhere how (depository line) ≡ true → (step_sent how b line).book ≡ b
  unfolding step_sent
  sent_away f = away (reading line) refl f

  -- and gets 12 where it is read
  pub sent_refused : (l : Letter) (v : List ℕ) → reading line ≡ asks l v → elsewhere how (depository line) ≡ true
      → step_sent how b line ≡ refused12 b
  sent_refused l v e f =
      read_sent how b line l v e
      ∙ taken_elsewhere (elsewhere how (v ! 0)) b (command_of l v)
      (ap (elsewhere how) (sym (reading_depository line l v e)) ∙ f)

-- ---- sent so, a line is answered by every book as if it was sent alone, or it gets 12 from every book and leaves it

pub record AsAlone (how : Sent) (line : List ℕ) : Type 0 where
  pub steps : (b : Book) → step_sent how b line ≡ step b line
  pub left : (b : Book) → keeps how b line ≡ keeps Alone b line

abbrev pub Twelve : Sent → List ℕ → Type 0
Twelve how line = (b : Book) → step_sent how b line ≡ refused12 b

alone_unread : (how : Sent) (line : List ℕ) (r : Refusal) → reading line ≡ refused r → AsAlone how line
unfolding step step_sent after_reading keeps keeps_read
alone_unread how line r e = record { steps = λ b. rw e; left = λ b. rw e }

alone_here : (how : Sent) (line : List ℕ) (l : Letter) (v : List ℕ) → reading line ≡ asks l v
    → elsewhere how (v ! 0) ≡ false → AsAlone how line
unfolding step step_sent after_reading keeps keeps_read
alone_here how line l v e f =
    record { steps = λ b. rw (e, f); left = λ b. rw (e, f) }

pub alone_or_twelve : (how : Sent) (line : List ℕ) (r : Reading) → reading line ≡ r → AsAlone how line ⊎ Twelve how line
alone_or_twelve how line (refused r) e = inl (alone_unread how line r e)
alone_or_twelve how line (asks l v) e =
    cases (elsewhere how (v ! 0))
    (λ f. inr (λ b. read_sent how b line l v e ∙ taken_elsewhere (elsewhere how (v ! 0)) b (command_of l v) f))
    (λ f. inl (alone_here how line l v e f))
