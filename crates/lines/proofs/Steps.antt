-- A step over many lines submits the first of them one by one.
use Prim.Native.Nat.{ℕ, ◌+◌, ◌≤◌}
use mathlib.Core.Path.{◌≡◌, refl, sym, ap, ◌∙◌}
use mathlib.Core.Bool.{Bool, false}
use mathlib.Core.List.{List, [], ◌∷◌, ◌++◌, append_assoc, append-nil}
use native.Mathlib.Omega.{arith}
use native.Mathlib.Nat.{add-zero}
use lib.ListN.{length, take, drop, length-append, take-append-drop}
use lib.Seq.{length-take-le, take_at, drop_at, drop-drop}
use borrow.Author.Tests.{leb-false}
use Rattle.tables.proofs.Counts.{cases}
use Rattle.meaning.specs.Printing.{printed}
use Rattle.meaning.specs.Desk.{output}
use Rattle.meaning.specs.Lone.{told}
use Rattle.meaning.specs.declared.Answer.{Answer}
use Rattle.meaning.specs.declared.Sent.{Sent}
use Rattle.meaning.specs.declared.Sent.TheVariants.{Alone}
use Rattle.book.specs.Sound.{sound}
use Rattle.precheck.specs.Batch.{Steps, stop, next}
use Rattle.precheck.specs.Promise.{SubmittedAs}
use Rattle.answering.specs.Taking.{answer_by, bytes_by}
use Rattle.answering.proofs.Submits.{keeps_promise}
use Rattle.lines.specs.Ended.{ended}
use Rattle.lines.specs.Many.{answers_by, book_by, bytes_in, laid, written_as, Standing, room, one, many, standing, AnsweredBy, Answered}
use Rattle.lines.specs.Sent.{SentLines}
use Rattle.lines.specs.declared.Progress.{Progress}

-- ---- submitted one by one

-- a line answered over a book of which it is known whether it is sound: what `submit` promises, and it stays known
module _ (how : Sent) (s : Bool) (b l : List ℕ) (e : s ≡ sound b) where
  promised : SubmittedAs how b l (answer_by how s b l) (bytes_by how s b l)
  promised = rw e (keeps_promise how b l)

  pub known : s ≡ sound (bytes_by how s b l)
  unfolding bytes_by
  known = cases s (λ t. t ∙ sym (promised.stays (sym e ∙ t))) (λ t. rw t (sym t ∙ e))

pub submits : (how : Sent) (s : Bool) (b : List ℕ) (ls : List (List ℕ)) → s ≡ sound b
    → Steps b (told how ls) (answers_by how s b ls) (book_by how s b ls)
unfolding answers_by book_by
submits how s b [] e = stop
submits how s b (l ∷ ls) e = next (promised how s b l e) (submits how s (bytes_by how s b l) ls (known how s b l e))

pub stays_sound : (how : Sent) (s : Bool) (b : List ℕ) (ls : List (List ℕ)) → s ≡ sound b → s ≡ sound (book_by how s b ls)
unfolding book_by
stays_sound how s b [] e = e
stays_sound how s b (l ∷ ls) e = stays_sound how s (bytes_by how s b l) ls (known how s b l e)

-- ---- answers laid one behind the other

module _ (o : List ℕ) (w : ℕ) where
  pub laid_none : o ≡ laid o w []
  unfolding laid
  laid_none = sym (ap (λ k. take w o ++ [] ++ drop k o) (add-zero w) ∙ ap (λ r. r ++ drop w o) (append-nil (take w o)) ∙ take-append-drop w o)

  module _ (x : List ℕ) (h : w ≤ length o) where
    head : length (take w o ++ x) ≡ w + length x
    head = length-append (take w o) x ∙ ap (λ k. k + length x) (length-take-le w o h)

    pub laid_size : w + length x ≤ length (laid o w x)
    unfolding laid
    laid_size = omega (arith, head, length-append (take w o ++ x) (drop (w + length x) o))

    pub laid_behind : (y : List ℕ) → laid (laid o w x) (w + length x) y ≡ laid o w (x ++ y)
    unfolding laid
    laid_behind y =
        let p = take w o ++ x in
        let d = drop (w + length x) o in
        let n : w + length x + length y ≡ w + length (x ++ y) = omega (arith, length-append x y) in
        let q : drop (w + length x + length y) (p ++ d) ≡ drop (w + length (x ++ y)) o =
        sym (drop-drop (length y) (w + length x) (p ++ d))
        ∙ ap (drop (length y)) (drop_at p d (w + length x) head)
        ∙ drop-drop (length y) (w + length x) o
        ∙ ap (λ k. drop k o) n in
        ap (λ z. z ++ y ++ drop (w + length x + length y) (p ++ d)) (take_at p d (w + length x) head)
        ∙ ap (λ z. p ++ y ++ z) q
        ∙ ap (λ z. z ++ drop (w + length (x ++ y)) o) (append_assoc (take w o) x y)

-- the printed answers: one, and those behind it
pub output_more : (a : Answer) (as' : List Answer) → output (a ∷ as') ≡ written_as a ++ output as'
unfolding output written_as
output_more a as' = sym (append_assoc (printed a) (10 ∷ []) (output as'))

-- ---- a step over many lines

-- it answers the first of them, and stops at the last or where there is no room for an answer
pub record Came (t : Bool) (lines : List (List ℕ)) (s r : Standing) : Type 0 where
  pub done : List (List ℕ)
  pub rest : List (List ℕ)
  pub all : lines ≡ done ++ rest
  pub book : r.book ≡ book_by Alone t s.book done
  pub out : r.out ≡ laid s.out s.written (output (answers_by Alone t s.book done))
  pub read : r.read ≡ s.read + bytes_in done
  pub written : r.written ≡ s.written + length (output (answers_by Alone t s.book done))
  pub stops : (rest ≡ [] → ⊥) → room r ≡ false

module _ (t : Bool) where
  none_came : (ls : List (List ℕ)) (s : Standing) → ((ls ≡ [] → ⊥) → room s ≡ false) → Came t ls s s
  unfolding book_by answers_by bytes_in output
  none_came ls s h = record {
    done = [];
    rest = ls;
    all = refl;
    book = refl;
    out = laid_none s.out s.written;
    read = sym (add-zero s.read);
    written = sym (add-zero s.written);
    stops = h;
  }

  one_came : (l : List ℕ) (ls : List (List ℕ)) (s r : Standing) → s.written ≤ length s.out → Came t ls (one t s l) r
      → Came t (l ∷ ls) s r
  unfolding one book_by answers_by bytes_in
  one_came l ls s r h c =
      let a = answer_by Alone t s.book l in
      let x = written_as a in
      let rest' = answers_by Alone t (bytes_by Alone t s.book l) c.done in
      let e = output_more a rest' in
      record {
        done = l ∷ c.done;
        rest = c.rest;
        all = ap (λ z. l ∷ z) c.all;
        book = c.book;
        out = rw e (c.out ∙ laid_behind s.out s.written x h (output rest'));
        read = omega (arith, c.read);
        written = rw e (omega (arith, c.written, length-append x (output rest')));
        stops = c.stops;
      }

  one_size : (l : List ℕ) (s : Standing) → s.written ≤ length s.out → (one t s l).written ≤ length (one t s l).out
  unfolding one
  one_size l s h = laid_size s.out s.written (written_as (answer_by Alone t s.book l)) h

  pub steps : (ls : List (List ℕ)) (s : Standing) → s.written ≤ length s.out → Came t ls s (many t ls s)
  unfolding many
  steps [] s h = none_came [] s (λ f. absurd (f refl))
  steps (l ∷ ls) s h =
      cases (room s)
      (λ e. rw e (one_came l ls s (many t ls (one t s l)) h (steps ls (one t s l) (one_size l s h))))
      (λ e. rw e (none_came (l ∷ ls) s (λ f. e)))

-- ---- the returns of submit_lines

pub came : (t : Bool) (b text o b' o' : List ℕ) (r : Progress) → AnsweredBy t b text o r b' o'
    → Came t (ended text) (standing b o 0 0) (standing b' o' r.read r.written)
came t b text o b' o' r a = rw a.whole (steps t (ended text) (standing b o 0 0) (omega arith))

module _ {t : Bool} {b text o b' o' : List ℕ} {r : Progress} where
  pub exactly : AnsweredBy t b text o r b' o' → t ≡ sound b → Answered b text o r b' o'
  exactly a e = rw (← e) a

  sent_from : Came t (ended text) (standing b o 0 0) (standing b' o' r.read r.written) → t ≡ sound b
      → length o' ≡ length o → SentLines b text o r b' o'
  sent_from c e z =
      record {
        lines = c.done;
        others = c.rest;
        answers = answers_by Alone t b c.done;
        first = c.all;
        read = omega (arith, c.read);
        sent = rw c.book (submits Alone t b c.done e);
        out = c.out;
        written = omega (arith, c.written);
        stops = λ h. omega (arith, leb-false (r.written + 33) (length o') (c.stops h));
        stays = λ h. rw c.book (sym (stays_sound Alone t b c.done e) ∙ e ∙ h);
      }

  pub sent_lines : AnsweredBy t b text o r b' o' → t ≡ sound b → length o' ≡ length o → SentLines b text o r b' o'
  sent_lines a e z = sent_from (came t b text o b' o' r a) e z
