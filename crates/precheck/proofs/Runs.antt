-- There is a run of every list of calls over every book, and its answers are fixed.
use Rattle.std.proofs.Common.{ℕ, ◌≤◌, ◌≡◌, refl, ap, ap₂, sym, ◌∙◌, Bool, true, false, cond, List, [], ◌∷◌, arith, leb, length, replicate, get_or, leb-true}
use lib.ListN.{length-replicate}
use Rattle.tables.proofs.Counts.{cases, cases_eq, and_r}
use Rattle.meaning.specs.Batch.{batch_lines, batch_result, space_after}
use Rattle.meaning.specs.Fields.{within, fields}
use Rattle.meaning.specs.Records as M
use Rattle.meaning.specs.SameBook.{SameBook}
use Rattle.meaning.specs.Lone.{told, names, digit, depository}
use Rattle.meaning.specs.Nobody.{NamesNobody}
use Rattle.meaning.specs.Printing.{numbers_of}
use Rattle.meaning.specs.declared.Answer.{Answer}
use Rattle.meaning.specs.declared.Answer.TheVariants.{Taken, Refused}
use Rattle.meaning.specs.declared.Refusal.{Refusal}
use Rattle.meaning.specs.declared.Refusal.TheVariants.{UnsoundBook}
use Rattle.meaning.specs.declared.Sent.{Sent}
use Rattle.meaning.specs.declared.Sent.TheVariants.{Alone, InBatch}
use Rattle.meaning.proofs.Order.{sent_same}
use Rattle.meaning.proofs.Names.{names_depository}
use Rattle.meaning.proofs.Nobody.{nobody_refused}
use Rattle.book.specs.Lone.{lone_book}
use Rattle.book.specs.Sound.{sound}
use Rattle.answering.specs.Taking.{bytes_by}
use Rattle.book.proofs.Lists.{book_same, list_same}
use Rattle.book.proofs.SameBooks.{same_books, same_then}
use Rattle.precheck.specs.Promise.{SubmittedAs, answer_in, lone_after, left_as_found}
use Rattle.precheck.specs.Batch.{Steps, stop, next, Batched, SinglyAlike}
use Rattle.precheck.specs.Alone.{done, sent, batched, single, batch, SomeRun, OneAnswer, NobodysLine}
use Rattle.precheck.proofs.Alone.{run_steps}
use Rattle.precheck.proofs.Singly.{as_singly}
use Rattle.answering.proofs.Submits.{keeps_promise, untaken_kept}

-- ---- there is a run

-- steps of every list of lines
pub record SomeSteps (book : List ℕ) (lines : List (Sent × List ℕ)) : Type 0 where
  pub answers : List Answer
  pub after : List ℕ
  pub steps : Steps book lines answers after

pub some_steps : (book : List ℕ) (lines : List (Sent × List ℕ)) → SomeSteps book lines
some_steps book [] = record { answers = []; after = book; steps = stop }
some_steps book ((how, line) ∷ lines) =
    let rest = some_steps (bytes_by how (sound book) book line) lines in
    record { answers = _ ∷ rest.answers; after = rest.after; steps = next (keeps_promise how book line) rest.steps }

-- a batch, with an answer space of its size
some_batch : (book : List ℕ) (csd : ℕ) (text space : List ℕ)
    → let i = some_steps book (told (InBatch csd) (batch_lines text (length space))) in
    Batched book csd text space (batch_result text (length space)) i.after (space_after i.answers space)
some_batch book csd text space =
    let i = some_steps book (told (InBatch csd) (batch_lines text (length space))) in
    record { result = refl; answers = i.answers; taken = i.steps; written = refl }

pub some_run : SomeRun
some_run book [] = record { answers = []; run = done }
some_run book (single line ∷ calls) =
    let rest = some_run (bytes_by Alone (sound book) book line) calls in
    record { answers = _ ∷ rest.answers; run = sent (keeps_promise Alone book line) rest.run }
some_run book (batch csd text size ∷ calls) =
    let taken = some_steps book (told (InBatch csd) (batch_lines text (length {A = ℕ} (replicate size 0)))) in
    let rest = some_run taken.after calls in
    let one = some_batch book csd text (replicate size 0) in
    record { answers = _; run = batched (length-replicate {A = ℕ} size 0) one rest.run }

-- ---- a line that names nobody

refused_untaken : (r : Refusal) → Refused r ≡ Taken → ⊥
unfolding numbers_of
refused_untaken r e = omega (arith, ap (λ x. length (numbers_of x)) e)

untaken : (s : Bool) (r : Refusal) → cond s (Refused r) (Refused UnsoundBook) ≡ Taken → ⊥
untaken true r = refused_untaken r
untaken false r = refused_untaken UnsoundBook

pub nobodys_line : NobodysLine
unfolding answer_in
nobodys_line line h =
    let u = nobody_refused line h in
    let said : (how : Sent) (b b' : List ℕ) (x : Answer) → SubmittedAs how b line x b'
    → x ≡ cond (sound b) (Refused u.refusal) (Refused UnsoundBook) =
    λ how b b' x t.
    t.answered ∙ ap (λ z. cond (sound b) z.answer (Refused UnsoundBook)) (u.everywhere how (lone_book (depository line) b)) in
    record {
      refusal = u.refusal;
      low = omega (arith, u.low);
      high = u.high;
      answered = said;
      kept = λ how b b' x t.
          untaken_kept how b b' line x t (λ e. untaken (sound b) u.refusal (sym (said how b b' x t) ∙ e));
    }

digit_most : (f : List ℕ) → digit f ≤ 8
digit_most [] = omega arith
digit_most (c ∷ []) =
    cases (within 49 56 c)
    (λ e. rw e (omega (arith, leb-true c 56 (and_r (leb 49 c) (leb c 56) e))))
    (λ e. rw e (omega arith))
digit_most (c ∷ d ∷ cs) = omega arith

depository_most : (line : List ℕ) → depository line ≤ 8
unfolding depository
depository_most line = digit_most (get_or (fields line) 1 [])

named_none : (line : List ℕ) → depository line ≡ 0 → NamesNobody line
named_none line e c low high =
    cases (names c line) (λ n. absurd (omega (arith, names_depository c line low high n, e))) (λ n. n)

-- ---- the answers are fixed

same_back : (m n : M.Book) → SameBook m n → SameBook n m
same_back m n s = book_same n m (λ k p. sym (list_same m n s k p))

-- two books with the same records of every depository
abbrev AlikeBooks : List ℕ → List ℕ → Type 0
AlikeBooks b b' = (c : ℕ) → 1 ≤ c → c ≤ 8 → SameBook (lone_book c b) (lone_book c b')

module _ (how : Sent) (b b' : List ℕ) (s : sound b ≡ true) (s' : sound b' ≡ true) (h : AlikeBooks b b') (line : List ℕ) where
  answer_alike : answer_in how b line ≡ answer_in how b' line
  unfolding answer_in
  answer_alike =
      let d = depository line in
      rw (s, s')
      (cases_eq d 0
      (λ e.
      let u = nobody_refused line (named_none line e) in
      ap (λ z. z.answer) (u.everywhere how (lone_book d b)) ∙ sym (ap (λ z. z.answer) (u.everywhere how (lone_book d b'))))
      (λ e. (sent_same how (lone_book d b) (lone_book d b') (h d (omega arith) (depository_most line)) line).answer))

  after_alike : (c : ℕ) → 1 ≤ c → c ≤ 8 → SameBook (lone_after how c b line) (lone_after how c b' line)
  unfolding lone_after
  after_alike c low high =
      cases (names c line)
      (λ e. rw e (sent_same how (lone_book c b) (lone_book c b') (h c low high) line).book)
      (λ e. rw e (h c low high))

  next_alike : (n n' : List ℕ) (x x' : Answer) → SubmittedAs how b line x n → SubmittedAs how b' line x' n'
      → AlikeBooks n n'
  next_alike n n' x x' t t' c low high =
      same_then (lone_book c n) (lone_after how c b line) (lone_book c n') (t.records s c low high)
      (same_then (lone_after how c b line) (lone_after how c b' line) (lone_book c n') (after_alike c low high)
      (same_back (lone_book c n') (lone_after how c b' line) (t'.records s' c low high)))

sound_alike : {b b' c c' : List ℕ} {lines : List (Sent × List ℕ)} {as' bs' : List Answer} → Steps b lines as' c
    → Steps b' lines bs' c' → sound b ≡ true → sound b' ≡ true → AlikeBooks b b' → (as' ≡ bs') × AlikeBooks c c'
sound_alike stop stop s s' h = (refl, h)
sound_alike (next {line = line} {how = how} t r) (next t' r') s s' h =
    let i = sound_alike r r' (t.stays s) (t'.stays s') (next_alike how _ _ s s' h line _ _ _ _ t t') in
    (ap₂ ◌∷◌ (t.answered ∙ answer_alike how _ _ s s' h line ∙ sym t'.answered) i.0, i.1)

-- over a book that isn't sound every answer is refusal 1, and every byte stays
unsound_refused : {b c : List ℕ} {lines : List (Sent × List ℕ)} {as' : List Answer} → Steps b lines as' c
    → sound b ≡ false → (as' ≡ replicate (length lines) (Refused UnsoundBook)) × (c ≡ b)
unfolding answer_in left_as_found
unsound_refused stop s = (refl, refl)
unsound_refused (next {book = b} {line = line} t r) s =
    let kept = t.kept (rw s) in
    let i = unsound_refused r (ap sound kept ∙ s) in
    (ap₂ ◌∷◌ (rw s at t.answered) i.0, i.1 ∙ kept)

-- the same lines sent twice to one book
pub steps_alike : {b c c' : List ℕ} {lines : List (Sent × List ℕ)} {as' bs' : List Answer} → Steps b lines as' c
    → Steps b lines bs' c' → (as' ≡ bs') × AlikeBooks c c'
steps_alike {b = b} t t' =
    cases (sound b)
    (λ s. sound_alike t t' s s (λ d low high. same_books refl))
    (λ s.
    let i = unsound_refused t s in
    let j = unsound_refused t' s in
    (i.0 ∙ sym j.0, λ d low high. same_books (ap (lone_book d) (i.1 ∙ sym j.1))))

pub one_answer : OneAnswer
one_answer book calls as' bs' r r' = (steps_alike (run_steps r).steps (run_steps r').steps).0

pub singly_alike : SinglyAlike
singly_alike b csd lines xs ys c c' t t' =
    let i = steps_alike t' (as_singly b csd lines xs c t) in
    record { answered = i.0; records = i.1 }
