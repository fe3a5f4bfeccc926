-- What each return of `answer` shows: the promise of `submit`.
use Rattle.std.proofs.Common.{ℕ, ◌%◌, ◌≤◌, ◌≡◌, refl, ap, sym, ◌∙◌, Bool, true, false, cond, not, ◌||◌, List, Option, Some, None, is_some, Result, Ok, Err, arith}
use mathlib.Core.Bool.{false≢true}
use borrow.Author.Tests.{not-true}
use Rattle.tables.proofs.Counts.{cases, cases_eq}
use Rattle.meaning.specs.Forms.{Letter}
use Rattle.meaning.specs.Records as M
use Rattle.meaning.specs.Records.{◌!◌, command_of, question_in}
use Rattle.meaning.specs.Reading.{Reading, refused, asks, numbers_read, unless_wrong, reading}
use Rattle.meaning.specs.Refusals.{wrong, refusal_sent, refusal}
use Rattle.meaning.specs.Edits.{fits}
use Rattle.meaning.specs.Lone.{elsewhere, replied, reply, unless, taken_sent, taken, after_reading, step_sent, is_question, keeps_read, keeps, names, depository}
use Rattle.meaning.specs.SameBook.{SameBook}
use Rattle.meaning.specs.declared.Answer.{Answer}
use Rattle.meaning.specs.declared.Answer.TheVariants.{Taken, Refused}
use Rattle.meaning.specs.declared.Refusal.{Refusal}
use Rattle.meaning.specs.declared.Refusal.TheVariants.{UnsoundBook, BadField, OtherDepository}
use Rattle.meaning.specs.declared.Sent.{Sent}
use Rattle.meaning.proofs.Ranges.{reading_ranged, reading_fits}
use Rattle.meaning.proofs.Names.{reading_csd, reading_names, reading_depository, names_depository}
use Rattle.meaning.proofs.HowSent.{refused12, refusal_here, taken_here, taken_elsewhere, read_sent}
use Rattle.commands.specs.Asked.{asked, coded, letter_for}
use Rattle.meaning.specs.declared.Wishes.{Wishes}
use Rattle.commands.specs.declared.Question.{Question}
use Rattle.commands.specs.declared.Command.{Command}
use Rattle.commands.proofs.Decoded.{letter_for_lem}
use Rattle.commands.proofs.Narrow.{as_on, asked_coded, question_coded, narrow_read}
use Rattle.book.specs.Lone.{lone_book}
use Rattle.book.specs.Sound.{sound}
use Rattle.book.proofs.SameBooks.{same_books}
use Rattle.edits.specs.Edit.{edit_in}
use Rattle.edits.proofs.Leave.{question_left}
use Rattle.line.specs.declared.reading.Line.{Line}
use Rattle.line.specs.Line.{line_of}
use Rattle.line.proofs.LineCallers as Read
use Rattle.answering.specs.Promise.{answer_in, lone_after, left_as_found, SubmittedAs}
use Rattle.answering.specs.Taking.{refusal_of, answer_of, bytes_after, Ready, Took, command_in, is_elsewhere, answer_read, bytes_read, answer_by, bytes_by, Answers}
use Rattle.answering.proofs.Commands.{took_any}

-- ---- the depository of a question

abbrev csd_in : ℕ → Option (Question × Wishes) → ℕ
csd_in c None = c
csd_in c (Some a) = a.0.csd

own_csd : (c : ℕ) (q : Option (M.Question × Wishes)) → csd_in c (as_on c q) ≡ c
own_csd c None = refl
own_csd c (Some (q, w)) = refl

-- ---- the promise, by what is read

same_book : (m : M.Book) → SameBook m m
same_book m = same_books refl

pub submitted_unsound : (how : Sent) (b line : List ℕ) (t : Bool) (x : Answer) → t ≡ sound b → not t ≡ true
    → x ≡ Refused UnsoundBook → SubmittedAs how b line x b
unfolding answer_in
submitted_unsound how b line t x e f g =
    let s : sound b ≡ false = sym e ∙ not-true t f in
    record {
      answered = rw s g;
      kept = λ h. refl;
      stays = λ h. absurd (false≢true (sym s ∙ h));
      records = λ h. absurd (false≢true (sym s ∙ h));
    }

-- a line that is refused 2 to 5 leaves every lone book
submitted_unread : (how : Sent) (b line : List ℕ) (r : Refusal) (x : Answer) → sound b ≡ true → reading line ≡ refused r
    → x ≡ Refused r → SubmittedAs how b line x b
unfolding answer_in lone_after step_sent after_reading
submitted_unread how b line r x s e f =
    record {
      answered = rw (s, e) f;
      kept = λ z. refl;
      stays = λ z. z;
      records = λ z c low high.
          cases (names c line)
          (λ y. rw (y, e) (same_book (lone_book c b)))
          (λ y. rw y (same_book (lone_book c b)));
    }

-- a line that is read
module _ (how : Sent) (b line : List ℕ) (l : Letter) (v : List ℕ) (s : sound b ≡ true) (e : reading line ≡ asks l v) where
  abbrev c : ℕ
  c = v ! 0

  abbrev k : M.Command
  k = command_of l v

  abbrev m : M.Book
  m = lone_book c b

  -- whether it names another depository than its batch
  abbrev away : Bool
  away = elsewhere how c

  stepped : (z : M.Book) → step_sent how z line ≡ taken_sent away z k
  stepped z = read_sent how z line l v e

  low : 1 ≤ c
  low = (reading_csd line l v e).0

  high : c ≤ 8
  high = (reading_csd line l v e).1

  dep : depository line ≡ c
  dep = reading_depository line l v e

  other : (a : ℕ) → 1 ≤ a → a ≤ 8 → (c ≡ a → ⊥) → names a line ≡ false
  other a u h d = cases (names a line) (λ y. absurd (d (sym dep ∙ names_depository a line u h y))) (λ y. y)

  submitted_by : (x : Answer) (b' : List ℕ) → x ≡ (taken_sent away m k).answer → (left_as_found how b line ≡ true → b' ≡ b)
      → sound b' ≡ true → SameBook (lone_book c b') (taken_sent away m k).book
      → ((a : ℕ) → 1 ≤ a → (c ≡ a → ⊥) → lone_book a b' ≡ lone_book a b) → SubmittedAs how b line x b'
  unfolding answer_in lone_after
  submitted_by x b' f t g own others =
      record {
        answered = rw (s, dep, stepped m) f;
        kept = t;
        stays = λ z. g;
        records = λ z a u h.
            cases_eq c a
            (λ y. rw (← y, reading_names line l v e, stepped m) own)
            (λ y. rw (other a u h y, others a u y) (same_book (lone_book a b)));
      }

  -- a line of another depository than its batch's gets 12 and leaves every byte
  submitted_elsewhere : away ≡ true → (x : Answer) → x ≡ Refused OtherDepository → SubmittedAs how b line x b
  submitted_elsewhere w x f =
      let t : taken_sent away m k ≡ refused12 m = taken_elsewhere away m k w in
      submitted_by x b (f ∙ ap (λ z. z.answer) (sym t)) (λ z. refl) s (rw t (same_book m)) (λ a u y. refl)

  -- a question that is not refused leaves every byte
  left_question : away ≡ false → refusal m k ≡ None → left_as_found how b line ≡ true → is_question k ≡ true
  unfolding left_as_found keeps keeps_read
  left_question w r h =
      let i : refusal_sent away m k ≡ None = refusal_here away m k w ∙ r in
      rw (s, dep, e, i) at h

  -- the code's command is the meaning's
  abbrev d : Command
  d = coded c (v ! 1) k

  same : asked d ≡ k
  same = asked_coded c (v ! 1) k (narrow_read l v (reading_ranged line l v e))

  ready : Ready b d
  unfolding coded
  ready =
      record {
        book = s;
        low = low;
        high = high;
        fits = ap fits same ∙ reading_fits line l v e;
        own = λ q w f. sym (ap (csd_in c) (sym (question_coded c k) ∙ f)) ∙ own_csd c (question_in k);
      }

  kept_by : away ≡ false → (b' : List ℕ) (o : Option Refusal) → refusal m k ≡ o → b' ≡ cond (is_some o) b (edit_in b c k)
      → left_as_found how b line ≡ true → b' ≡ b
  kept_by w b' None r j h = j ∙ question_left b c k (left_question w r h)
  kept_by w b' (Some z) r j h = j

  kept : away ≡ false → (b' : List ℕ) → b' ≡ bytes_after b d → left_as_found how b line ≡ true → b' ≡ b
  unfolding bytes_after refusal_of coded
  kept w b' i h =
      kept_by w b' (refusal m k) refl (i ∙ ap (λ z. cond (is_some (refusal m z)) b (edit_in b c z)) same) h

  -- THE PROMISE for a line that is read, from what `take` does.
  submitted_read : away ≡ false → (x : Answer) (b' : List ℕ) → Took b d x b' → SubmittedAs how b line x b'
  unfolding coded
  submitted_read w x b' t =
      let y = t.meant ready in
      let u : taken_sent away m k ≡ taken m (asked d) = taken_here away m k w ∙ ap (taken m) (sym same) in
      submitted_by x b' (y.answered ∙ ap (λ z. z.answer) (sym u)) (kept w b' t.bytes) y.stays
      (rw u y.left.own) y.left.others

-- ---- from what the code read to the meaning's command

module _ (line : List ℕ) (l : Line) (a : Read.Asked line l) where
  abbrev L : Letter
  L = a.letter

  abbrev ns : List ℕ
  ns = a.numbers

  -- the code's command is the meaning's, coded
  same_command : command_in l ≡ coded (ns ! 0) (ns ! 1) (command_of L ns)
  same_command =
      let first : l.values ! 0 % 256 ≡ ns ! 0 = omega (arith, a.at 0 (omega arith), a.csd_high) in
      let byte : letter_for l.letter ≡ L = ap letter_for a.byte ∙ letter_for_lem L in
      rw (first, a.at 1 (omega arith), byte, a.command)

  -- and asks the same
  same_asked : asked (command_in l) ≡ command_of L ns
  same_asked =
      ap asked same_command ∙ asked_coded (ns ! 0) (ns ! 1) (command_of L ns) (narrow_read L ns a.ranged)

  -- of the same depository
  same_csd : (command_in l).csd ≡ ns ! 0
  unfolding coded
  same_csd = ap (λ z. z.csd) same_command

  wrong_reading : wrong (asked (command_in l)) ≡ true → reading line ≡ refused BadField
  unfolding reading unless_wrong
  wrong_reading w = rw (a.whole, ap wrong (sym same_asked) ∙ w)

  right_reading : wrong (asked (command_in l)) ≡ false → reading line ≡ asks L ns
  unfolding reading unless_wrong
  right_reading w = rw (a.whole, ap wrong (sym same_asked) ∙ w)

unread : (line : List ℕ) (r : Refusal) → numbers_read line ≡ refused r → reading line ≡ refused r
unfolding reading unless_wrong
unread line r e = rw e

-- ---- the returns of answer

module _ (how : Sent) (b line : List ℕ) (t : Bool) (x : Answer) where
  pub answers_unsound : not t ≡ true → x ≡ Refused UnsoundBook → Answers how t b line x b
  unfolding answer_by bytes_by
  answers_unsound f g =
      let n = not-true t f in
      record { answered = rw n g; bytes = rw n; promise = λ e. submitted_unsound how b line t x e f g }

  module _ (n : t ≡ true) where
    pub answers_unread : (r : Refusal) → Err r ≡ line_of (numbers_read line) → x ≡ Refused r → Answers how t b line x b
    unfolding answer_by bytes_by answer_read bytes_read
    answers_unread r g i =
        record {
          answered = rw (n, ← g) i;
          bytes = rw (n, ← g);
          promise = λ e.
              submitted_unread how b line r x (sym e ∙ n) (unread line r (Read.was_refused line g).whole) i;
        }

    module _ (l : Line) (g : Ok l ≡ line_of (numbers_read line)) (c : Command) (w : Bool) (i : c ≡ command_in l)
        (j : w ≡ wrong (asked c)) where
      read_as : line_of (numbers_read line) ≡ Ok l
      read_as = sym g

      said : wrong (asked (command_in l)) ≡ w
      said = ap (λ z. wrong (asked z)) (sym i) ∙ sym j

      pub answers_wrong : w ≡ true → x ≡ Refused BadField → Answers how t b line x b
      unfolding answer_by bytes_by answer_read bytes_read
      answers_wrong y u =
          record {
            answered = rw (n, read_as, said ∙ y) u;
            bytes = rw (n, read_as, said ∙ y);
            promise = λ e.
                submitted_unread how b line BadField x (sym e ∙ n) (wrong_reading line l (Read.asked line g) (said ∙ y)) u;
          }

      module _ (y : w ≡ false) (d : Bool) (p : d ≡ elsewhere how c.csd) where
        sent_so : is_elsewhere how l ≡ d
        sent_so = ap (λ z. elsewhere how z.csd) (sym i) ∙ sym p

        -- the same of the meaning's numbers
        read_so : (a : Read.Asked line l) → elsewhere how (a.numbers ! 0) ≡ d
        read_so a = ap (elsewhere how) (sym (same_csd line l a)) ∙ sent_so

        pub answers_elsewhere : d ≡ true → x ≡ Refused OtherDepository → Answers how t b line x b
        unfolding answer_by bytes_by answer_read bytes_read
        answers_elsewhere q u =
            let a = Read.asked line g in
            record {
              answered = rw (n, read_as, said ∙ y, sent_so ∙ q) u;
              bytes = rw (n, read_as, said ∙ y, sent_so ∙ q);
              promise = λ e.
                  submitted_elsewhere how b line a.letter a.numbers (sym e ∙ n)
                  (right_reading line l a (said ∙ y)) (read_so a ∙ q) x u;
            }

        pub answers_read : (b' : List ℕ) → d ≡ false → Took b c x b' → Answers how t b line x b'
        unfolding answer_by bytes_by answer_read bytes_read
        answers_read b' q u =
            let a = Read.asked line g in
            let k : Took b (command_in l) x b' = rw (← i) u in
            record {
              answered = rw (n, read_as, said ∙ y, sent_so ∙ q) k.answered;
              bytes = rw (n, read_as, said ∙ y, sent_so ∙ q) k.bytes;
              promise = λ e.
                  submitted_read how b line a.letter a.numbers (sym e ∙ n) (right_reading line l a (said ∙ y))
                  (read_so a ∙ q) x b' (rw (same_command line l a) at k);
            }

-- ---- the promise of submit

module _ (how : Sent) (b b' line : List ℕ) (t : Bool) (x : Answer) where
  pub submits : Answers how t b line x b' → t ≡ sound b → SubmittedAs how b line x b'
  submits a e = a.promise e

-- ---- what is answered to any line over any bytes keeps the promise

answers_as : (how : Sent) (b line : List ℕ) (o : Result Line Refusal) → o ≡ line_of (numbers_read line)
    → Answers how true b line (answer_read how b o) (bytes_read how b o)
unfolding answer_read bytes_read
answers_as how b line (Err r) g = answers_unread how b line true (Refused r) refl r g refl
answers_as how b line (Ok l) g =
    let c = command_in l in
    cases (wrong (asked c))
    (λ w. rw w (answers_wrong how b line true (Refused BadField) refl l g c true refl (sym w) refl refl))
    (λ w.
    cases (is_elsewhere how l)
    (λ d.
    rw (w, d)
    (answers_elsewhere how b line true (Refused OtherDepository) refl l g c false refl (sym w) refl true
    (sym d) refl refl))
    (λ d.
    rw (w, d)
    (answers_read how b line true (answer_of b c) refl l g c false refl (sym w) refl false (sym d)
    (bytes_after b c) refl (took_any b c))))

answers_any : (how : Sent) (b line : List ℕ)
    → Answers how true b line (answer_by how true b line) (bytes_by how true b line)
unfolding answer_by bytes_by
answers_any how b line = answers_as how b line (line_of (numbers_read line)) refl

pub keeps_promise : (how : Sent) (b line : List ℕ)
    → SubmittedAs how b line (answer_by how (sound b) b line) (bytes_by how (sound b) b line)
unfolding answer_by bytes_by
keeps_promise how b line =
    cases (sound b)
    (λ s. rw s ((answers_any how b line).promise (sym s)))
    (λ s. rw s ((answers_unsound how b line false (Refused UnsoundBook) refl refl).promise (sym s)))

-- ---- an answer other than K: every byte is left

-- any other command is replied K
none_replied : (m : M.Book) (q : Option (M.Question × Wishes)) → is_some q ≡ false → replied m q ≡ Taken
unfolding replied
none_replied m None e = refl
none_replied m (Some q) e = absurd (false≢true (sym e))

reply_edit : (m : M.Book) (k : M.Command) → is_question k ≡ false → reply m k ≡ Taken
unfolding reply
reply_edit m k = none_replied m (question_in k)

untaken_by : (m : M.Book) (k : M.Command) (o : Option Refusal) → ((unless o m k).answer ≡ Taken → ⊥)
    → (is_some o || is_question k) ≡ true
unfolding unless
untaken_by m k (Some r) h = refl
untaken_by m k None h = cases (is_question k) (λ q. q) (λ q. absurd (h (reply_edit m k q)))

untaken_keeps : (how : Sent) (m : M.Book) (y : Reading) → ((after_reading how m y).answer ≡ Taken → ⊥)
    → keeps_read how m y ≡ true
unfolding after_reading keeps_read taken_sent unless
untaken_keeps how m (refused r) h = refl
untaken_keeps how m (asks l v) h = untaken_by m (command_of l v) (refusal_sent (elsewhere how (v ! 0)) m (command_of l v)) h

pub untaken_left : (how : Sent) (b line : List ℕ) → (answer_in how b line ≡ Taken → ⊥) → left_as_found how b line ≡ true
unfolding answer_in left_as_found keeps step_sent
untaken_left how b line h =
    cases (sound b)
    (λ s. rw s (untaken_keeps how (lone_book (depository line) b) (reading line) (λ e. h (rw s e))))
    (λ s. rw s)

pub untaken_kept : (how : Sent) (b b' line : List ℕ) (x : Answer) → SubmittedAs how b line x b' → (x ≡ Taken → ⊥)
    → b' ≡ b
untaken_kept how b b' line x s h = s.kept (untaken_left how b line (λ e. h (s.answered ∙ e)))
