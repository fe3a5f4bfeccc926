-- An answer written with zeros behind it, and answers one behind the other.
use Prim.Native.Nat.{ℕ, ◌+◌, ◌-◌, ◌*◌, ◌≤◌}
use mathlib.Core.Path.{◌≡◌, refl, sym, ap, subst, ◌∙◌}
use mathlib.Core.Bool.{Bool}
use mathlib.Core.List.{List, [], ◌∷◌, ◌++◌}
use native.Mathlib.Omega.{arith}
use native.Mathlib.Nat.{zero-add}
use lib.ListN.{length, take, drop, replicate, length-append, length-replicate, length-drop}
use lib.Seq.{length-take-le}
use borrow.Rule.Slice.PartMut.{put_mid}
use Rattle.std.proofs.lemmas.Slice.{drop-put_mid}
use Rattle.meaning.specs.Desk.{lines_of}
use Rattle.meaning.specs.Printing.{printed}
use Rattle.meaning.specs.declared.Answer.{Answer}
use Rattle.meaning.specs.declared.Sent.{Sent}
use Rattle.text.specs.Printed.{Prints}
use Rattle.answering.specs.Taking.{answer_by, bytes_by, Answers}
use Rattle.lines.specs.Many.{laid, answers_by, book_by}
use Rattle.lines.proofs.Laying.{laid_part}
use Rattle.lines.proofs.Steps.{laid_none, laid_behind}
use Rattle.meaning.specs.Batch.{width, filled, spaced, space_after}
use Rattle.batches.specs.Taken.{Put, Turn, TakenBy}

-- ---- one answer

filled_length : (l : List ℕ) → length l ≤ width → length (filled l) ≡ width
unfolding filled
filled_length l h = omega (arith, length-append l (replicate (width - length l) 0), length-replicate {A = ℕ} (width - length l) 0)

-- a text put to an index of a space, and zeros up to 32 bytes behind it
pub put : {o ys zs p s : List ℕ} {at : ℕ} {a : Answer} → Prints a p → s ≡ p → ys ≡ s
    → zs ≡ replicate (length (take (width + at - (at + length s)) (drop (at + length s) (put_mid at (at + length s - at) o ys)))) 0
    → at + width ≤ length o
    → Put o at a (put_mid (at + length s) (width + at - (at + length s)) (put_mid at (at + length s - at) o ys) zs)
unfolding filled
put {o} {ys} {zs} {p} {s} {at} {a} i e y z h =
    let end = at + length s in
    let n = width + at - end in
    let zeros : List ℕ = replicate (width - length s) 0 in
    let few : length s ≤ width = rw e i.few in
    let same : drop end (put_mid at (end - at) o ys) ≡ drop end o =
    drop-put_mid at (end - at) o ys end (omega arith) (omega arith) (omega (arith, ap length y)) in
    let left : length (take n (drop end (put_mid at (end - at) o ys))) ≡ width - length s =
    ap (λ d. length (take n d)) same ∙ length-take-le n (drop end o) (omega (arith, few, h, length-drop end o)) ∙ omega (arith, few) in
    let x : zs ≡ zeros = z ∙ ap (λ j. replicate j 0) left in
    let m : n ≡ length zeros = omega (arith, few, length-replicate {A = ℕ} (width - length s) 0) in
    record {
      whole =
          ap (λ d. put_mid end n d zs) (laid_part o ys s at (end - at) y (omega arith))
          ∙ laid_part (laid o at s) zs zeros end n x m
          ∙ laid_behind o at s (omega (arith, h)) zeros
          ∙ ap (λ l. laid o at (filled l)) (e ∙ i.text);
      few = rw (← i.text) i.few;
    }

-- ---- one line

pub turned : {b line o b' o' : List ℕ} {how : Sent} {s : Bool} {at : ℕ} {x : Answer} → Answers how s b line x b' → Put o at x o' → Turn how s b line o at (at + width) b' o'
turned {o = o} {o' = o'} {at = at} a e = record { book = a.bytes; put = subst (λ z. Put o at z o') a.answered e; next = refl }

-- ---- line after line

-- the answers to lines have 32 bytes each
abbrev pub Sized : Sent → Bool → List ℕ → List (List ℕ) → Type 0
Sized how s b lines = length (spaced (answers_by how s b lines)) ≡ width * length lines

-- what is left, answered from here on, gives the whole
pub record Going (b₀ : List ℕ) (all : List (List ℕ)) (o₀ : List ℕ) (how : Sent) (s : Bool) (b o : List ℕ) (left : List (List ℕ)) (written : ℕ) : Type 0 where
  pub book : book_by how s b left ≡ book_by how s b₀ all
  pub out : laid o written (spaced (answers_by how s b left)) ≡ laid o₀ 0 (spaced (answers_by how s b₀ all))
  pub sized : Sized how s b left → Sized how s b₀ all
  pub room : written + width * length left ≤ length o
  pub book_size_lem : length b ≡ length b₀
  pub out_size : length o ≡ length o₀

laid_front : (x o : List ℕ) → laid o 0 x ≡ x ++ drop (length x) o
unfolding laid
laid_front x o = ap (λ k. x ++ drop k o) (zero-add (length x))

module _ {b₀ o₀ : List ℕ} {all : List (List ℕ)} {how : Sent} {s : Bool} where
  pub going_first : {left : List (List ℕ)} → left ≡ all → width * length all ≤ length o₀
      → Going b₀ all o₀ how s b₀ o₀ left 0
  going_first e h =
      rw e
      (record {
        book = refl;
        out = refl;
        sized = λ z. z;
        room = omega arith;
        book_size_lem = refl;
        out_size = refl;
      })

  module _ {b o : List ℕ} {left : List (List ℕ)} {written : ℕ} (g : Going b₀ all o₀ how s b o left written) where
    module _ {line : List ℕ} {others : List (List ℕ)} (e : left ≡ line ∷ others) where
      pub room_for : written + width ≤ length o
      room_for = omega (arith, g.room, ap length e)

      pub going_on : {r : ℕ} {b' o' : List ℕ} → Turn how s b line o written r b' o' → length b' ≡ length b → length o' ≡ length o
          → Going b₀ all o₀ how s b' o' others r
      unfolding book_by answers_by spaced
      going_on {r} {b'} {o'} u y z =
          let x = filled (printed (answer_by how s b line)) in
          let n : length x ≡ width = filled_length (printed (answer_by how s b line)) u.put.few in
          let rest = spaced (answers_by how s (bytes_by how s b line) others) in
          record {
            book = rw u.book (rw e at g.book);
            out =
                rw (u.book, u.put.whole, u.next)
                (ap (λ k. laid (laid o written x) (written + k) rest) (sym n)
                ∙ laid_behind o written x (omega (arith, room_for)) rest
                ∙ (rw e at g.out));
            sized = rw u.book (λ q. (rw e at g.sized) (omega (arith, q, n, length-append x rest)));
            room = omega (arith, g.room, ap length e, z, u.next);
            book_size_lem = y ∙ g.book_size_lem;
            out_size = z ∙ g.out_size;
          }

-- no line is left
pub going_out : {b₀ text o₀ b o : List ℕ} {how : Sent} {s : Bool} {left : List (List ℕ)} {written : ℕ} → Going b₀ (lines_of text) o₀ how s b o left written
    → left ≡ [] → TakenBy how s b₀ text o₀ b o
unfolding book_by answers_by spaced space_after
going_out {b₀} {text} {o₀} {b} {o} {how} {s} {left} {written} g e =
    record {
      book = rw e at g.book;
      answers = laid_none o written ∙ (rw e at g.out) ∙ laid_front (spaced (answers_by how s b₀ (lines_of text))) o₀;
      sized = (rw e at g.sized) refl;
    }
