-- What each return of `submit_batch` shows.
use Prim.Native.Nat.{ℕ, suc, ◌+◌, ◌*◌, ◌≤◌, min}
use mathlib.Core.Path.{◌≡◌, refl, sym, ap, ◌∙◌}
use mathlib.Core.Bool.{Bool, true, false, not}
use mathlib.Core.List.{List, [], ◌∷◌}
use Rattle.std.specs.Prelude.{Result, Ok, Err}
use native.Mathlib.Omega.{arith}
use lib.Dec.{leb}
use lib.ListN.{length}
use borrow.Author.Tests.{leb-true, not-true, not-false}
use Rattle.tables.proofs.Counts.{both}
use Rattle.meaning.specs.Desk.{lines_of}
use Rattle.meaning.specs.Batch.{width, most, fits, batch_result, batch_lines, spaced, space_after}
use Rattle.meaning.specs.declared.Refusal.{Refusal}
use Rattle.meaning.specs.declared.Refusal.TheVariants.{BatchTooLarge}
use Rattle.meaning.specs.declared.Sent.{Sent}
use Rattle.meaning.specs.declared.Sent.TheVariants.{InBatch}
use Rattle.book.specs.Sound.{sound}
use Rattle.precheck.specs.Batch.{Batched}
use Rattle.answering.specs.Taking.{bytes_by}
use Rattle.lines.specs.Many.{answers_by, book_by}
use Rattle.lines.proofs.Steps.{submits}
use Rattle.batches.specs.Taken.{TakenBy, TakenIn, Taken}
use Rattle.batches.proofs.Counting.{counted_fits}
use Rattle.batches.proofs.Placing.{placed}

module _ (text : List ℕ) {n : ℕ} (m : ℕ) {q : Bool} (k : n ≡ min (most + 1) (length (lines_of text))) (e : q ≡ fits n m) where
  whether : fits (length (lines_of text)) m ≡ q
  whether = sym (e ∙ counted_fits n (length (lines_of text)) m k)

  pub room_for_all : not q ≡ false → width * length (lines_of text) ≤ m
  unfolding fits
  room_for_all f =
      let l = length (lines_of text) in
      leb-true (width * l) m (both (leb l most) (leb (width * l) m) (whether ∙ not-false q f)).1

  counted : not q ≡ false → n ≡ length (lines_of text)
  unfolding fits
  counted f =
      let l = length (lines_of text) in
      let h = leb-true l most (both (leb l most) (leb (width * l) m) (whether ∙ not-false q f)).0 in
      omega arith

answers_length : (how : Sent) (t : Bool) (b : List ℕ) (ls : List (List ℕ)) → length (answers_by how t b ls) ≡ length ls
unfolding answers_by
answers_length how t b [] = refl
answers_length how t b (l ∷ ls) = ap suc (answers_length how t (bytes_by how t b l) ls)

all_sized : (how : Sent) (t : Bool) (b : List ℕ) (ls : List (List ℕ)) → length (spaced (answers_by how t b ls)) ≡ width * length ls
    → length (spaced (answers_by how t b ls)) ≡ width * length (answers_by how t b ls)
all_sized how t b ls e = e ∙ ap (λ k. width * k) (sym (answers_length how t b ls))

pub over_any : {csd : ℕ} {b text o b' o' : List ℕ} {t : Bool} → TakenBy (InBatch csd) t b text o b' o' → t ≡ sound b
    → TakenIn csd b text o b' o'
over_any a e = rw (← e) a

-- premises in the order of the calls, the last one first
module _ {b : List ℕ} (csd : ℕ) {text o : List ℕ} {n : ℕ} {q : Bool} where
  pub not_taken : q ≡ fits n (length o) → not q ≡ true → n ≡ min (most + 1) (length (lines_of text))
      → Taken b csd text o (Err BatchTooLarge) b o
  unfolding batch_result batch_lines book_by answers_by spaced space_after
  not_taken e f k =
      let w = whether text (length o) k e ∙ not-true q f in
      record { result = rw w; book = rw w; answers = rw w; placed = rw w (placed [] o refl) }

  pub all_taken : {b' o' : List ℕ} → TakenIn csd b text o b' o'
      → q ≡ fits n (length o) → not q ≡ false → n ≡ min (most + 1) (length (lines_of text))
      → Taken b csd text o (Ok n) b' o'
  unfolding batch_result batch_lines
  all_taken a e f k =
      let w = whether text (length o) k e ∙ not-false q f in
      let lines = lines_of text in
      record {
        result = rw w (ap Ok (counted text (length o) k e f));
        book = rw w a.book;
        answers = rw w a.answers;
        placed =
            rw (w, a.answers)
            (placed (answers_by (InBatch csd) (sound b) b lines) o (all_sized (InBatch csd) (sound b) b lines a.sized));
      }

-- ---- what that means: each line is what is promised of a line in a batch of the depository

batched : (b : List ℕ) (csd : ℕ) (text o : List ℕ) (r : Result ℕ Refusal) (b' o' : List ℕ) → Taken b csd text o r b' o'
    → Batched b csd text o r b' o'
batched b csd text o r b' o' t =
    let lines = batch_lines text (length o) in
    record {
      result = t.result;
      answers = answers_by (InBatch csd) (sound b) b lines;
      taken = rw t.book (submits (InBatch csd) (sound b) b lines refl);
      written = t.answers;
    }

module _ {b : List ℕ} (csd : ℕ) {text o : List ℕ} {n : ℕ} {q : Bool} where
  pub not_batched : q ≡ fits n (length o) → not q ≡ true → n ≡ min (most + 1) (length (lines_of text))
      → Batched b csd text o (Err BatchTooLarge) b o
  not_batched e f k = batched b csd text o (Err BatchTooLarge) b o (not_taken csd e f k)

  pub all_batched : {b' o' : List ℕ} → TakenIn csd b text o b' o'
      → q ≡ fits n (length o) → not q ≡ false → n ≡ min (most + 1) (length (lines_of text))
      → Batched b csd text o (Ok n) b' o'
  all_batched {b'} {o'} a e f k = batched b csd text o (Ok n) b' o' (all_taken csd a e f k)
