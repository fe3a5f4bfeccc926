-- A batch and the same lines sent singly, those refused 12 left out; and a batch that is refused 11.
use Rattle.std.proofs.Common.{ℕ, ◌≡◌, refl, ap, sym, subst, ◌∙◌, true, false, cond, not, ◌||◌, List, [], ◌∷◌, ⊎_elim}
use mathlib.Core.Bool.{false≢true}
use Rattle.tables.specs.Count.{keep}
use Rattle.tables.proofs.Counts.{cases}
use Rattle.meaning.specs.Batch.{batch_result, batch_lines, space_after}
use Rattle.meaning.specs.Reading.{reading}
use Rattle.meaning.specs.SameBook.{SameBook}
use Rattle.meaning.specs.Lone.{step_sent, step, names, depository}
use Rattle.meaning.specs.declared.Answer.{Answer}
use Rattle.meaning.specs.declared.Answer.TheVariants.{Taken, Refused}
use Rattle.meaning.specs.declared.Refusal.TheVariants.{UnsoundBook}
use Rattle.meaning.specs.declared.Sent.{Sent}
use Rattle.meaning.specs.declared.Sent.TheVariants.{InBatch}
use Rattle.meaning.proofs.HowSent.{AsAlone, Twelve, alone_or_twelve}
use Rattle.book.specs.Lone.{lone_book}
use Rattle.book.specs.Sound.{sound}
use Rattle.answering.proofs.Submits.{untaken_kept}
use Rattle.precheck.specs.Promise.{answer_in, lone_after, left_as_found, SubmittedAs, Submitted}
use Rattle.precheck.specs.Batch.{Steps, stop, next, is_twelve, lines_taken, AsSingly, NothingWritten}

-- ---- a line that is not refused 12

module _ (how : Sent) (b b' line : List ℕ) (x : Answer) (t : SubmittedAs how b line x b') where
  -- over a book that isn't sound
  unsound_singly : sound b ≡ false → Submitted b line x b'
  unfolding answer_in left_as_found
  unsound_singly s = record {
    answered = rw s (rw s at t.answered);
    kept = λ h. t.kept (rw s);
    stays = t.stays;
    records = λ z. absurd (false≢true (sym s ∙ z));
  }

  alone_singly : AsAlone how line → Submitted b line x b'
  unfolding answer_in lone_after left_as_found step_sent step
  alone_singly y = record {
    answered = t.answered ∙ ap (λ z. cond (sound b) z.answer (Refused UnsoundBook)) (y.steps (lone_book (depository line) b));
    kept = λ h. t.kept (ap (λ z. not (sound b) || z) (y.left (lone_book (depository line) b)) ∙ h);
    stays = t.stays;
    records = λ s c low high.
        subst (λ z. SameBook (lone_book c b') (cond (names c line) z.book (lone_book c b))) (y.steps (lone_book c b))
        (t.records s c low high);
  }

  twelve_answered : sound b ≡ true → Twelve how line → is_twelve x ≡ true
  unfolding answer_in is_twelve
  twelve_answered s y =
      let m = lone_book (depository line) b in
      let x12 = t.answered ∙ ap (λ z. cond z (step_sent how m line).answer (Refused UnsoundBook)) s ∙ ap (λ z. z.answer) (y m) in
      ap is_twelve x12

  pub singly : is_twelve x ≡ false → Submitted b line x b'
  singly n =
      cases (sound b)
      (λ s.
      ⊎_elim alone_singly (λ y. absurd (false≢true (sym n ∙ twelve_answered s y)))
      (alone_or_twelve how line (reading line) refl))
      unsound_singly

-- 12 is not K
twelve_untaken : (x : Answer) → is_twelve x ≡ true → x ≡ Taken → ⊥
unfolding is_twelve
twelve_untaken x e f = false≢true (ap is_twelve (sym f) ∙ e)

-- ---- all lines

steps_at : {b n b' : List ℕ} {ls : List (Sent × List ℕ)} {xs : List Answer} → n ≡ b → Steps n ls xs b'
    → Steps b ls xs b'
steps_at {b' = b'} {ls = ls} {xs = xs} e t = subst (λ z. Steps z ls xs b') e t

pub as_singly : AsSingly
unfolding lines_taken keep
as_singly b csd [] as' b' stop = stop
as_singly b csd (line ∷ lines) as' b' (next {between = n} {answer = x} t r) =
    cases (is_twelve x)
    (λ e.
    let left : n ≡ b = untaken_kept (InBatch csd) b n line x t (twelve_untaken x e) in
    rw e (steps_at left (as_singly n csd lines _ b' r)))
    (λ e. rw e (next (singly (InBatch csd) b n line x t e) (as_singly n csd lines _ b' r)))

-- ---- refused 11

no_steps : {b b' : List ℕ} {as' : List Answer} → Steps b [] as' b' → (as' ≡ []) × (b' ≡ b)
no_steps stop = (refl, refl)

pub nothing_written : NothingWritten
unfolding batch_result batch_lines space_after
nothing_written b csd text space r b' space' t f =
    let n = no_steps (rw f at t.taken) in
    record {
      eleven = rw f at t.result;
      book = n.1;
      lent = t.written ∙ ap (λ z. space_after z space) n.0;
    }
