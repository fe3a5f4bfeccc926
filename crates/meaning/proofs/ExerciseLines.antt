-- Lines of which these are answered K: their commands are in range and not refused, and the book is edited by each in
-- turn.
use Rattle.std.proofs.Common.{ℕ, ◌≡◌, refl, ap, sym, subst, ◌∙◌, Bool, true, false, List, [], ◌∷◌, Option, Some, None, arith}
use Rattle.meaning.specs.Records.{◌!◌, Book, Question, Command, command_of, ask}
use Rattle.meaning.specs.Reading.{Reading, refused, asks, reading}
use Rattle.meaning.specs.Refusals.{conditions, refusal}
use Rattle.meaning.specs.Edits.{edited, fits}
use Rattle.meaning.specs.Judging.{judged}
use Rattle.meaning.specs.Status.{answer_to}
use Rattle.meaning.specs.declared.Refusal.{Refusal}
use Rattle.meaning.specs.declared.Wishes.{Wishes}
use Rattle.meaning.specs.Lone.{Step, elsewhere, reply, replied, unless, taken_sent, taken, after_reading, step_sent, step, after_sent}
use Rattle.meaning.specs.declared.Answer.TheVariants.{Taken}
use Rattle.meaning.specs.declared.Sent.{Sent}
use Rattle.meaning.specs.declared.Sent.TheVariants.{Alone}
use Rattle.meaning.specs.Exercise.{command_read, Entered, done, taking, passing, QuestionAnswered}
use Rattle.meaning.proofs.Ranges.{reading_fits}
use Rattle.meaning.proofs.HowSent.{sent_here}

-- the commands are in range and not refused, one after the other, and leave the book c
abbrev pub Accepted : Book → List Command → Book → Type 0
Accepted b [] c = c ≡ b
Accepted b (k ∷ ks) c = (fits k ≡ true) × (refusal b k ≡ None) × Accepted (edited b k) ks c

-- what one line that is answered K does
pub record One (b : Book) (k : Command) (s : Step) : Type 0 where
  pub range : fits k ≡ true
  pub free : refusal b k ≡ None
  pub left : s.book ≡ edited b k

unless_taken : (o : Option Refusal) (b : Book) (k : Command) → (unless o b k).answer ≡ Taken
    → (o ≡ None) × ((unless o b k).book ≡ edited b k)
unfolding unless
unless_taken None b k e = (refl, refl)
unless_taken (Some r) b k e = absurd (let z : ◌≡◌ {A = ℕ} 0 1 = cc in omega arith)

taken_sent_lem : (e : Bool) (b : Book) (k : Command) → (taken_sent e b k).answer ≡ Taken
    → (refusal b k ≡ None) × ((taken_sent e b k).book ≡ edited b k)
unfolding taken_sent refusal
taken_sent_lem true b k t = absurd (let z : ◌≡◌ {A = ℕ} 0 1 = cc in omega arith)
taken_sent_lem false b k t = unless_taken (refusal b k) b k t

read_taken : (how : Sent) (b : Book) (line : List ℕ) (r : Reading) (k : Command) → reading line ≡ r
    → command_read r ≡ Some k → (after_reading how b r).answer ≡ Taken → One b k (after_reading how b r)
unfolding after_reading command_read
read_taken how b line (refused r) k z e t = absurd (let z : ◌≡◌ {A = ℕ} 0 1 = cc in omega arith)
read_taken how b line (asks l v) k z e t =
    let i : command_of l v ≡ k = cc in
    let u = taken_sent_lem (elsewhere how (v ! 0)) b (command_of l v) t in
    record {
      range = ap fits (sym i) ∙ reading_fits line l v z;
      free = ap (refusal b) (sym i) ∙ u.0;
      left = u.1 ∙ ap (edited b) i;
    }

pub accepted : {b : Book} {lines : List (Sent × List ℕ)} {ks : List Command} → Entered b lines ks
    → Accepted b ks (after_sent b lines)
unfolding after_sent step_sent
accepted done = refl
accepted (taking {b = b} {how = how} {line = line} {lines = lines} {k = k} {ks = ks} e t rest) =
    let one = read_taken how b line (reading line) k refl e t in
    (one.range, one.free, subst (λ d. Accepted d ks (after_sent b ((how, line) ∷ lines))) one.left (accepted rest))
accepted (passing {b = b} {how = how} {line = line} {lines = lines} {ks = ks} e rest) =
    let left : Accepted b ks (after_sent b lines) = accepted rest in
    subst (λ d. Accepted b ks (after_sent d lines)) (sym e) left

-- ---- questions

read_answered : (b : Book) (r : Reading) (q : Question) (w : Wishes) → command_read r ≡ Some (ask q w)
    → (after_reading Alone b r).answer ≡ answer_to (judged b q) w
unfolding after_reading command_read taken refusal conditions unless reply replied
read_answered b (refused r) q w e = absurd (let z : ◌≡◌ {A = ℕ} 0 1 = cc in omega arith)
read_answered b (asks l v) q w e = let i : command_of l v ≡ ask q w = cc in ap (λ k. (taken b k).answer) i

pub question_answered : QuestionAnswered
unfolding step step_sent
question_answered how b line q w here e =
    ap (λ s. s.answer) (sent_here how b line here) ∙ read_answered b (reading line) q w e
