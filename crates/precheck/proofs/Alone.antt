-- Demand 3, proved.
use Rattle.std.proofs.Common.{ℕ, ◌≤◌, ◌≡◌, refl, ap, ap₂, sym, subst, ◌∙◌, true, false, not, List, [], ◌∷◌, ◌++◌, map}
use mathlib.Core.Bool.{false≢true}
use Rattle.tables.specs.Count.{keep}
use Rattle.tables.proofs.Counts.{cases, and_r}
use Rattle.meaning.specs.Batch.{batch_lines}
use Rattle.meaning.specs.Records as M
use Rattle.meaning.specs.SameBook.{SameBook}
use Rattle.meaning.specs.Status.{status_in}
use Rattle.meaning.specs.Lone.{elsewhere, told, step_sent, answers_sent, after_sent, answers_from, answers, names, depository, counts, lone_answers, lone_answers_sent}
use Rattle.meaning.specs.declared.Answer.{Answer}
use Rattle.meaning.specs.declared.Sent.{Sent}
use Rattle.meaning.specs.declared.Sent.TheVariants.{Alone, InBatch}
use Rattle.meaning.proofs.Order.{sent_same}
use Rattle.meaning.proofs.Names.{names_depository}
use Rattle.meaning.proofs.HowSent.{sent_away}
use Rattle.book.specs.Lone.{lone_book}
use Rattle.book.specs.Sound.{sound}
use Rattle.book.proofs.NoRecords.{emptied_sound, emptied_lone}
use Rattle.book.proofs.SameBooks.{same_books, same_then}
use Rattle.precheck.specs.Promise.{answer_in, lone_after}
use Rattle.precheck.specs.Batch.{Steps, stop, next}
use Rattle.precheck.specs.Alone.{Call, stands, stood, Run, done, sent, batched, answers_at, OneAlone, TwoRuns, StatusAlone, NeighbourStatus, singles, answers_to, OneAloneLines, TwoRunsLines}

-- ---- a run as steps, line after line

pub steps_then : {b n b' : List ℕ} {ls ms : List (Sent × List ℕ)} {xs ys : List Answer} → Steps b ls xs n
    → Steps n ms ys b' → Steps b (ls ++ ms) (xs ++ ys) b'
steps_then stop t = t
steps_then (next s r) t = next s (steps_then r t)

pub record Stepped (b : List ℕ) (calls : List Call) (xs : List Answer) : Type 0 where
  pub after : List ℕ
  pub steps : Steps b (stood calls) xs after

pub run_steps : {b : List ℕ} {calls : List Call} {xs : List Answer} → Run b calls xs → Stepped b calls xs
unfolding stood stands
run_steps (done {book = b}) = record { after = b; steps = stop }
run_steps (sent {next = n} {calls = calls} {answers = xs} t r) =
    let i = run_steps r in
    let rest : Steps n (stood calls) xs i.after = i.steps in
    record { after = i.after; steps = next t rest }
run_steps (batched {book = b} {next = n} {text = text} {csd = csd} e t r) =
    let i = run_steps r in
    let first = subst (λ z. Steps b (told (InBatch csd) (batch_lines text z)) t.answers n) e t.taken in
    record { after = i.after; steps = steps_then first i.steps }

module _ (a : ℕ) (low : 1 ≤ a) (high : a ≤ 8) where
  -- ---- what the promise says where the line counts as a's, and where it does not

  module _ (how : Sent) (b b' line : List ℕ) where
    pub shared_answer : depository line ≡ a → sound b ≡ true
        → answer_in how b line ≡ (step_sent how (lone_book a b) line).answer
    unfolding answer_in
    shared_answer d s = rw (s, d)

    pub named_after : names a line ≡ true → SameBook (lone_book a b') (lone_after how a b line)
        → SameBook (lone_book a b') (step_sent how (lone_book a b) line).book
    unfolding lone_after
    named_after e h = rw e at h

    unnamed_after : names a line ≡ false → SameBook (lone_book a b') (lone_after how a b line)
        → SameBook (lone_book a b') (lone_book a b)
    unfolding lone_after
    unnamed_after e h = rw e at h

    counted_name : counts a (how, line) ≡ true → names a line ≡ true
    unfolding counts
    counted_name e = and_r (not (elsewhere how a)) (names a line) e

    -- it names a and came in a batch of another
    uncounted : names a line ≡ true → counts a (how, line) ≡ false → elsewhere how a ≡ true
    unfolding counts
    uncounted e f = cases (elsewhere how a) (λ w. w) (λ w. absurd (false≢true (sym (rw (w, e) at f))))

    pub other_after : counts a (how, line) ≡ false → SameBook (lone_book a b') (lone_after how a b line)
        → SameBook (lone_book a b') (lone_book a b)
    other_after f h =
        cases (names a line)
        (λ e.
        let w = ap (elsewhere how) (names_depository a line low high e) ∙ uncounted e f in
        subst (SameBook (lone_book a b')) (sent_away how (lone_book a b) line w) (named_after e h))
        (λ e. unnamed_after e h)

  -- ---- steps from a sound book in which a's records are those of m

  pub record Fed (m : M.Book) (ls : List (Sent × List ℕ)) (xs : List Answer) (b' : List ℕ) : Type 0 where
    pub answered : answers_at (counts a) ls xs ≡ answers_sent m (keep (counts a) ls)
    pub left : SameBook (lone_book a b') (after_sent m (keep (counts a) ls))
    pub stays : sound b' ≡ true

  pub from : {b b' : List ℕ} {ls : List (Sent × List ℕ)} {xs : List Answer} → Steps b ls xs b' → (m : M.Book)
      → sound b ≡ true → SameBook (lone_book a b) m → Fed m ls xs b'
  unfolding answers_at keep answers_sent after_sent
  from stop m s h = record { answered = refl; left = h; stays = s }
  from (next {book = b} {between = n} {line = line} {how = how} {answer = x} t r) m s h =
      cases (counts a (how, line))
      (λ e.
      let named = counted_name how b n line e in
      let u = sent_same how (lone_book a b) m h line in
      let d = names_depository a line low high named in
      let first : x ≡ (step_sent how m line).answer = t.answered ∙ shared_answer how b n line d s ∙ u.answer in
      let m' = (step_sent how m line).book in
      let own = named_after how b n line named (t.records s a low high) in
      let i = from r m' (t.stays s) (same_then (lone_book a n) (step_sent how (lone_book a b) line).book m' own u.book) in
      record { answered = rw e (ap₂ ◌∷◌ first i.answered); left = rw e i.left; stays = i.stays })
      (λ e.
      let own = other_after how b n line e (t.records s a low high) in
      let i = from r m (t.stays s) (same_then (lone_book a n) (lone_book a b) m own h) in
      record { answered = rw e i.answered; left = rw e i.left; stays = i.stays })

-- what the lone book answers, which is empty at first
lone_from : (a : ℕ) (ls : List (Sent × List ℕ)) → answers_sent M.empty (keep (counts a) ls) ≡ lone_answers_sent a ls
unfolding lone_answers_sent
lone_from a ls = refl

-- Demand 3.
pub one_alone : OneAlone
unfolding answers_at stood
one_alone lent book e calls as' r a low high =
    let own = same_books (emptied_lone lent book e a low) in
    (from a low high (run_steps r).steps M.empty (emptied_sound lent book e) own).answered ∙ lone_from a (stood calls)

pub two_runs : TwoRuns
unfolding lone_answers_sent
two_runs lent lent' book book' e e' calls calls' as' bs' r r' a low high same =
    one_alone lent book e calls as' r a low high
    ∙ ap (answers_sent M.empty) same
    ∙ sym (one_alone lent' book' e' calls' bs' r' a low high)

-- ---- the status

pub status_alone : StatusAlone
status_alone lent book e calls as' r a low high = ap (map status_in) (one_alone lent book e calls as' r a low high)

pub neighbour_status : NeighbourStatus
neighbour_status lent lent' book book' e e' calls calls' as' bs' r r' a low high same =
    ap (map status_in) (two_runs lent lent' book book' e e' calls calls' as' bs' r r' a low high same)

-- ---- the case without batches

pub stood_singles : (lines : List (List ℕ)) → stood (singles lines) ≡ told Alone lines
unfolding stood stands
stood_singles [] = refl
stood_singles (line ∷ lines) = ap (◌∷◌ (Alone, line)) (stood_singles lines)

-- lines sent one after the other as calls
pub run_singles : {b b' : List ℕ} {xs : List Answer} (lines : List (List ℕ)) → Steps b (told Alone lines) xs b'
    → Run b (singles lines) xs
run_singles [] stop = done
run_singles (line ∷ lines) (next t r) = sent t (run_singles lines r)

pub keep_alone : (a : ℕ) (lines : List (List ℕ))
    → keep (counts a) (told Alone lines) ≡ told Alone (keep (names a) lines)
unfolding keep counts elsewhere
keep_alone a [] = refl
keep_alone a (line ∷ lines) =
    cases (names a line) (λ e. rw e (ap (◌∷◌ (Alone, line)) (keep_alone a lines))) (λ e. rw e (keep_alone a lines))

answers_alone : (a : ℕ) (lines : List (List ℕ)) (xs : List Answer)
    → answers_at (counts a) (told Alone lines) xs ≡ answers_to a lines xs
unfolding answers_at counts elsewhere
answers_alone a [] xs = refl
answers_alone a (line ∷ lines) [] = refl
answers_alone a (line ∷ lines) (x ∷ xs) =
    cases (names a line) (λ e. rw e (ap (◌∷◌ x) (answers_alone a lines xs))) (λ e. rw e (answers_alone a lines xs))

lone_alone : (a : ℕ) (lines : List (List ℕ)) → lone_answers_sent a (told Alone lines) ≡ lone_answers a lines
unfolding lone_answers_sent lone_answers answers answers_from
lone_alone a lines = ap (answers_sent M.empty) (keep_alone a lines)

pub one_alone_lines : OneAloneLines
one_alone_lines lent book e lines as' r a low high =
    let z = stood_singles lines in
    let claim = one_alone lent book e (singles lines) as' r a low high in
    sym (answers_alone a lines as') ∙ (rw z at claim) ∙ lone_alone a lines

pub two_runs_lines : TwoRunsLines
unfolding lone_answers
two_runs_lines lent lent' book book' e e' lines lines' as' bs' r r' a low high same =
    one_alone_lines lent book e lines as' r a low high
    ∙ ap answers same
    ∙ sym (one_alone_lines lent' book' e' lines' bs' r' a low high)
