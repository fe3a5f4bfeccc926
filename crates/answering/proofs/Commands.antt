-- What each return of `take` shows: what a command does to a book.
use Rattle.std.proofs.Common.{ℕ, ◌≡◌, refl, ap, sym, ◌∙◌, Bool, true, false, cond, not, List, Option, Some, None, is_some, eqb}
use Rattle.meaning.specs.Records as M
use Rattle.meaning.specs.Records.{question_in}
use Rattle.meaning.specs.Refusals.{refusal}
use Rattle.meaning.specs.Edits.{edited}
use Rattle.meaning.specs.Judging.{judged}
use Rattle.meaning.specs.Status.{answer_to}
use Rattle.meaning.specs.Lone.{elsewhere, replied, reply, unless, taken}
use Rattle.meaning.specs.Sound.{sound_lone}
use Rattle.meaning.specs.declared.Answer.{Answer}
use Rattle.meaning.specs.declared.Answer.TheVariants.{Taken, Refused}
use Rattle.meaning.specs.declared.Refusal.{Refusal}
use Rattle.meaning.specs.declared.Sent.{Sent}
use Rattle.meaning.specs.declared.Sent.TheVariants.{Alone, InBatch}
use Rattle.meaning.specs.declared.Verdict.{Verdict}
use Rattle.meaning.specs.declared.Wishes.{Wishes}
use Rattle.commands.specs.Asked.{asked, question_asked, question_of}
use Rattle.commands.specs.declared.Question.{Question}
use Rattle.commands.specs.declared.What.{What}
use Rattle.commands.specs.declared.Command.{Command}
use Rattle.commands.proofs.Narrow.{as_meant, asked_question}
use Rattle.book.specs.Lone.{lone_book}
use Rattle.book.proofs.SameBooks.{same_books}
use Rattle.edits.specs.Edit.{edit_in}
use Rattle.edits.specs.Leaves.{Leaves, Accepted, Edited}
use Rattle.edits.proofs.Leave.{question_left}
use Rattle.edits.proofs.Stay.{sound_lone_lem, edit_left}
use Rattle.edits.proofs.Does.{edit_meant}
use Rattle.judge.specs.Stages.{judged_by}
use Rattle.judge.proofs.VerdictRight.{judged_right}
use Rattle.answering.specs.Taking.{refused_or, refusal_of, replied_to, reply_to, answer_of, bytes_after, Ready, Took}

-- the code's test for a line of another depository than its batch
pub elsewhere_alone : (s : Sent) (r : Bool) (csd : ℕ) → s ≡ Alone → r ≡ false → r ≡ elsewhere s csd
unfolding elsewhere
elsewhere_alone s r csd e f = rw e f

pub elsewhere_batch : (s : Sent) (r : Bool) (csd c : ℕ) → s ≡ InBatch c → r ≡ not (eqb csd c) → r ≡ elsewhere s csd
unfolding elsewhere
elsewhere_batch s r csd c e f = rw e f

-- the code's test for a question
pub question_of_lem : (x : What) (q : Question) (w : Wishes) → x ≡ What.Ask q w → question_asked x ≡ Some (q, w)
question_of_lem x q w e = ap question_asked e

-- what the code's test for a refusal leaves is none
pub none_given : {o : Option Refusal} → ((r : Refusal) → o ≡ Some r → ⊥) → o ≡ None
none_given {o = None} k = refl
none_given {o = Some r} k = absurd (k r refl)

taken_by : (m : M.Book) (k : M.Command) → taken m k ≡ unless (refusal m k) m k
unfolding taken refusal
taken_by m k = refl

-- the book as it was
unchanged : (b : List ℕ) (c : ℕ) → Leaves b b c (lone_book c b)
unchanged b c = record { size = refl; places = λ e. e; own = same_books refl; others = λ a l d. refl }

module _ (b : List ℕ) (c : Command) where
  abbrev m : M.Book
  m = lone_book c.csd b

  abbrev k : M.Command
  k = asked c

  pub took_refusal : (r : Refusal) (o : Option Refusal) (x : Answer) → x ≡ Refused r → o ≡ Some r → o ≡ refusal m k
      → Took b c x b
  unfolding answer_of bytes_after refusal_of unless
  took_refusal r o x g f h =
      let e : refusal m k ≡ Some r = sym h ∙ f in
      let u : taken m k ≡ record { answer = Refused r; book = m } = taken_by m k ∙ ap (λ j. unless j m k) e in
      record {
        answered = rw e g;
        bytes = rw e;
        meant = λ y.
            record {
              answered = g ∙ ap (λ z. z.answer) (sym u);
              left = rw u (unchanged b c.csd);
              stays = y.book;
            };
      }

  -- ---- where no refusal holds

  module _ (o : Option Refusal) (none_holds : o ≡ None) (holds : o ≡ refusal m k) where
    unrefused : refusal m k ≡ None
    unrefused = sym holds ∙ none_holds

    accepted : Ready b c → Accepted b c.csd k
    accepted y = record { book = y.book; low = y.low; high = y.high; fits = y.fits; unrefused = unrefused }

    took : (b' : List ℕ) (x : Answer) → x ≡ reply_to b c.what → b' ≡ edit_in b c.csd k → (Ready b c → x ≡ reply m k)
        → (Ready b c → Edited b c.csd k b') → Took b c x b'
    unfolding answer_of bytes_after refusal_of unless
    took b' x h g replies leaves =
        let u : taken m k ≡ record { answer = reply m k; book = edited m k } =
        taken_by m k ∙ ap (λ j. unless j m k) unrefused in
        record {
          answered = rw unrefused h;
          bytes = rw unrefused g;
          meant = λ y.
              record {
                answered = replies y ∙ ap (λ z. z.answer) (sym u);
                left = rw u (leaves y).left;
                stays = (leaves y).stays;
              };
        }

    -- by what `judge` and `answer_to` ensure
    pub took_question : (q : Question) (w : Wishes) (v : Verdict) (x : Answer) → question_asked c.what ≡ Some (q, w)
        → v ≡ judged_by b q → (sound_lone (lone_book q.csd b) ≡ true → v ≡ judged (lone_book q.csd b) (question_of q))
        → x ≡ answer_to v w → Took b c x b
    unfolding reply_to replied_to reply replied
    took_question q w v x e f g h =
        let i : question_in k ≡ Some (question_of q, w) = asked_question c.day c.what ∙ ap as_meant e in
        let left : b ≡ edit_in b c.csd k = sym (question_left b c.csd k (ap is_some i)) in
        took b x (rw (e, ← f) h) left
        (λ y.
        let right = g (rw (y.own q w e) (sound_lone_lem b y.book c.csd y.low y.high)) in
        h ∙ ap (λ z. answer_to z w) (right ∙ ap (λ z. judged (lone_book z b) (question_of q)) (y.own q w e))
        ∙ ap (replied m) (sym i))
        (λ y. edit_meant b b c left (accepted y))

    -- by what `edit` ensures
    pub took_edit : (b' : List ℕ) → question_asked c.what ≡ None → b' ≡ edit_in b c.csd k
        → (Accepted b c.csd k → Edited b c.csd k b') → Took b c Taken b'
    unfolding reply_to reply replied
    took_edit b' e g h =
        let i : question_in k ≡ None = asked_question c.day c.what ∙ ap as_meant e in
        took b' Taken (rw e) g (λ y. ap (replied m) (sym i)) (λ y. h (accepted y))

    -- ---- what is answered and left by definition

    took_reply : (o : Option (Question × Wishes)) → question_asked c.what ≡ o → Took b c (replied_to b o) (edit_in b c.csd k)
    unfolding replied_to
    took_reply None e = took_edit (edit_in b c.csd k) e refl (edit_left b c.csd k)
    took_reply (Some (q, w)) e =
        let i : question_in k ≡ Some (question_of q, w) = asked_question c.day c.what ∙ ap as_meant e in
        rw (question_left b c.csd k (ap is_some i)) (took_question q w (judged_by b q) _ e refl (judged_right b q) refl)

  took_by : (o : Option Refusal) → o ≡ refusal m k
      → Took b c (refused_or (reply_to b c.what) o) (cond (is_some o) b (edit_in b c.csd k))
  unfolding reply_to
  took_by None h = took_reply None refl h (question_asked c.what) refl
  took_by (Some r) h = took_refusal r (Some r) (Refused r) refl refl h

  pub took_any : Took b c (answer_of b c) (bytes_after b c)
  unfolding answer_of bytes_after refusal_of
  took_any = took_by (refusal m k) refl
