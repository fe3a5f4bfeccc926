-- A text that is read in pieces is answered as if it had come whole.
use Prim.Native.Nat.{ℕ, zero, suc, ◌+◌, ◌≤◌}
use mathlib.Core.Path.{◌≡◌, refl, sym, ap, ◌∙◌}
use mathlib.Core.Bool.{Bool, false, cond}
use mathlib.Core.List.{List, [], ◌∷◌, ◌++◌, map, append_assoc, append-nil, map-append}
use native.Mathlib.Omega.{arith}
use native.Mathlib.Nat.{add-zero}
use lib.Dec.{leb}
use lib.ListN.{length, take, drop}
use lib.Seq.{take_all, take_at, take-take, length-take-le}
use borrow.Author.Tests.{leb-true, leb-false, lt-leb}
use Rattle.tables.specs.Count.{has}
use Rattle.tables.proofs.Counts.{cases}
use Rattle.meaning.specs.Fields.{well_made}
use Rattle.meaning.specs.Reading.{numbers_read}
use Rattle.meaning.specs.Printing.{printed}
use Rattle.meaning.specs.Desk.{lines_of, output}
use Rattle.meaning.specs.declared.Answer.{Answer}
use Rattle.book.specs.Sound.{sound}
use Rattle.precheck.specs.Alone.{Run, singles}
use Rattle.answering.specs.Taking.{answer_by, bytes_by}
use Rattle.precheck.proofs.Alone.{run_singles, one_alone_lines}
use Rattle.meaning.specs.declared.Sent.TheVariants.{Alone}
use Rattle.lines.specs.Ended.{in_front, ended, begun, last_line, short}
use Rattle.lines.specs.Many.{answers_by, book_by, answers_of, laid}
use Rattle.lines.specs.Whole.{Fed, last, more, joined, Whole, DeskAlone}
use Rattle.lines.specs.declared.Desk.{Desk}
use Rattle.lines.proofs.BegunLine.{is_end, Open, open_first, open_rest, open_none, has_behind, open_take, begun_open, lines_behind}
use Rattle.lines.proofs.Steps.{submits}

-- ---- a begun line in front of a piece

-- a begun line in front of the ended lines behind it
onto : List ℕ → List (List ℕ) → List (List ℕ)
onto h [] = []
onto h (l ∷ ls) = (h ++ l) ∷ ls

onto_none : (ls : List (List ℕ)) → onto [] ls ≡ ls
unfolding onto
onto_none [] = refl
onto_none (l ∷ ls) = refl

onto_more : (c : ℕ) (cs : List ℕ) (ls : List (List ℕ)) → in_front false c (onto cs ls) ≡ onto (c ∷ cs) ls
unfolding onto
onto_more c cs [] = refl
onto_more c cs (l ∷ ls) = refl

ended_onto : (h p : List ℕ) → Open h → ended (h ++ p) ≡ onto h (ended p)
unfolding ended
ended_onto [] p e = sym (onto_none (ended p))
ended_onto (c ∷ cs) p e = rw (open_first c cs e, ended_onto cs p (open_rest c cs e)) (onto_more c cs (ended p))

begun_all : (p : List ℕ) → Open p → begun p ≡ p
unfolding begun
begun_all [] e = refl
begun_all (c ∷ cs) e = rw e

begun_onto : (h p : List ℕ) → Open h → begun (h ++ p) ≡ cond (has is_end p) (begun p) (h ++ p)
unfolding begun
begun_onto [] p e = cases (has is_end p) (λ s. rw s) (λ s. rw (s, begun_all p s))
begun_onto (c ∷ cs) p e =
    let i = begun_onto cs p (open_rest c cs e) in
    cases (has is_end p)
    (λ s. rw (has_behind (c ∷ cs) p e, s) (i ∙ rw s))
    (λ s. rw (has_behind (c ∷ cs) p e, s))

-- ---- lines cut behind 81 bytes

take_onto : (n : ℕ) (h l : List ℕ) → take n (take n h ++ l) ≡ take n (h ++ l)
take_onto zero h l = refl
take_onto (suc n) [] l = refl
take_onto (suc n) (x ∷ h) l = ap (λ z. x ∷ z) (take_onto n h l)

cut : List (List ℕ) → List (List ℕ)
cut = map short

cut_onto : (h : List ℕ) (ls : List (List ℕ)) → cut (onto (short h) ls) ≡ cut (onto h ls)
unfolding cut onto
cut_onto h [] = refl
cut_onto h (l ∷ ls) = ap (λ z. z ∷ map short ls) (take_onto 81 h l)

cut_ended : (h p : List ℕ) → Open h → cut (ended (short h ++ p)) ≡ cut (ended (h ++ p))
cut_ended h p e = rw (ended_onto h p e, ended_onto (short h) p (open_take 81 h e)) (cut_onto h (ended p))

cut_begun : (h p : List ℕ) → Open h → short (begun (short h ++ p)) ≡ short (begun (h ++ p))
cut_begun h p e =
    rw (begun_onto h p e, begun_onto (short h) p (open_take 81 h e))
    (cases (has is_end p) (λ s. rw s) (λ s. rw s (take_onto 81 h p)))

-- a text without byte 10 is one line, if it has a byte
lines_open : (h : List ℕ) → Open h → lines_of h ≡ last_line h
unfolding lines_of last_line
lines_open [] e = refl
lines_open (c ∷ []) e = rw (open_first c [] e)
lines_open (c ∷ d ∷ cs) e = rw (open_first c (d ∷ cs) e, lines_open (d ∷ cs) (open_rest c (d ∷ cs) e))

cut_lone : (h : List ℕ) → cut (last_line (short h)) ≡ cut (last_line h)
unfolding cut last_line
cut_lone [] = refl
cut_lone (c ∷ cs) = ap (λ z. (c ∷ z) ∷ []) (take-take 80 80 cs (omega arith))

cut_last : (h : List ℕ) → Open h → cut (last_line (short h)) ≡ cut (lines_of h)
cut_last h e = rw (lines_open h e) (cut_lone h)

-- the lines that are answered, from the begun line that is held and the pieces that come: after each piece those that
-- are ended, and at the end of input the line that is begun, if there is one
lines_in : List ℕ → List (List ℕ) → List (List ℕ)
lines_in held [] = last_line held
lines_in held (piece ∷ pieces) = ended (held ++ piece) ++ lines_in (short (begun (held ++ piece))) pieces

cut_both : (ls ms : List (List ℕ)) → cut (ls ++ ms) ≡ cut ls ++ cut ms
unfolding cut
cut_both ls ms = map-append short ls ms

cut_lines : (pieces : List (List ℕ)) (h : List ℕ) → Open h
    → cut (lines_in (short h) pieces) ≡ cut (lines_of (h ++ joined pieces))
unfolding lines_in joined
cut_lines [] h e = rw append-nil (cut_last h e)
cut_lines (p ∷ ps) h e =
    let g = begun (h ++ p) in
    rw (cut_both (ended (short h ++ p)) (lines_in (short (begun (short h ++ p))) ps), cut_ended h p e, cut_begun h p e, cut_lines ps g (begun_open (h ++ p)), ← append_assoc h p (joined ps), lines_behind (h ++ p) (joined ps))
    (sym (cut_both (ended (h ++ p)) (lines_of (g ++ joined ps))))

-- ---- a line over 80 bytes is refused, whatever stands in it

long : (l : List ℕ) → 81 ≤ length l → well_made l ≡ false
unfolding well_made
long l h = rw (lt-leb (length l) 80 (omega arith)) (cases (leb 1 (length l)) (λ e. rw e) (λ e. rw e))

numbers_cut : (l : List ℕ) → numbers_read (short l) ≡ numbers_read l
unfolding numbers_read
numbers_cut l =
    cases (leb (length l) 81)
    (λ e. rw (take_all 81 l (leb-true (length l) 81 e)))
    (λ e.
    let h = leb-false (length l) 81 e in
    rw (long l (omega arith), long (short l) (omega (arith, length-take-le 81 l (omega arith)))))

module _ (s : Bool) where
  answers_cut : (b : List ℕ) (ls : List (List ℕ)) → answers_by Alone s b (cut ls) ≡ answers_by Alone s b ls
  unfolding answers_by cut answer_by bytes_by
  answers_cut b [] = refl
  answers_cut b (l ∷ ls) = rw (numbers_cut l, answers_cut (bytes_by Alone s b l) ls)

  bytes_cut : (b l : List ℕ) → bytes_by Alone s b (short l) ≡ bytes_by Alone s b l
  unfolding bytes_by
  bytes_cut b l = rw (numbers_cut l)

  book_cut : (b : List ℕ) (ls : List (List ℕ)) → book_by Alone s b (cut ls) ≡ book_by Alone s b ls
  unfolding book_by cut
  book_cut b [] = refl
  book_cut b (l ∷ ls) = ap (λ z. book_by Alone s z (map short ls)) (bytes_cut b l) ∙ book_cut (bytes_by Alone s b l) ls

  -- ---- lines one behind the other

  answers_both : (b : List ℕ) (ls ms : List (List ℕ)) → answers_by Alone s b (ls ++ ms) ≡ answers_by Alone s b ls ++ answers_by Alone s (book_by Alone s b ls) ms
  unfolding answers_by book_by
  answers_both b [] ms = refl
  answers_both b (l ∷ ls) ms = ap (λ z. answer_by Alone s b l ∷ z) (answers_both (bytes_by Alone s b l) ls ms)

  book_both : (b : List ℕ) (ls ms : List (List ℕ)) → book_by Alone s b (ls ++ ms) ≡ book_by Alone s (book_by Alone s b ls) ms
  unfolding book_by
  book_both b [] ms = refl
  book_both b (l ∷ ls) ms = book_both (bytes_by Alone s b l) ls ms

output_both : (xs ys : List Answer) → output (xs ++ ys) ≡ output xs ++ output ys
unfolding output
output_both [] ys = refl
output_both (x ∷ xs) ys = rw (output_both xs ys) (sym (append_assoc (printed x) (10 ∷ output xs) (output ys)))

-- ---- what the desk writes is the output of the answers to these lines

record Told (s : Bool) (b : List ℕ) (ls : List (List ℕ)) (written after : List ℕ) : Type 0 where
  pub outputs : written ≡ output (answers_by Alone s b ls)
  pub book : after ≡ book_by Alone s b ls

-- bytes at the front of a space
front : (o x y : List ℕ) (n : ℕ) → n ≡ length x → y ≡ laid o 0 x → take n y ≡ x
unfolding laid
front o x y n e f = rw (f, e) (take_at x (drop (0 + length x) o) (length x) refl)

told_more : (s : Bool) (b h piece : List ℕ) (pieces : List (List ℕ)) (b' w w' after : List ℕ) → b' ≡ book_by Alone s b (ended (h ++ piece))
    → w ≡ output (answers_by Alone s b (ended (h ++ piece))) → Told s b' (lines_in (short (begun (h ++ piece))) pieces) w' after
    → Told s b (lines_in h (piece ∷ pieces)) (w ++ w') after
unfolding lines_in
told_more s b h piece pieces b' w w' after e f t =
    let ls = ended (h ++ piece) in
    let ms = lines_in (short (begun (h ++ piece))) pieces in
    record {
      outputs =
          rw (f, t.outputs, e, answers_both s b ls ms) (sym (output_both (answers_by Alone s b ls) (answers_by Alone s (book_by Alone s b ls) ms)));
      book = rw (t.book, e) (sym (book_both s b ls ms));
    }

fed : {d : Desk} {b text written after : List ℕ} {pieces : List (List ℕ)} → Fed d b text pieces written after
    → Told d.sound b (lines_in (take d.held text) pieces) written after
unfolding lines_in
fed (last {d} {book} {text} {text₁} {out} {book'} {out'} {r} i e) =
    let t = e.takes in
    let h : take d.held text₁ ≡ take d.held text = ap (λ n. take n text₁) (sym (add-zero d.held)) ∙ i ∙ append-nil (take d.held text) in
    let x = output (answers_by Alone d.sound book (last_line (take d.held text₁))) in
    rw (← h) (record { outputs = front out x out' r.written t.written t.out; book = t.book })
fed (more {d} {book} {text} {piece} {text₁} {out} {book'} {text'} {out'} {written} {after} {r} {pieces} e p f) =
    let t = p.takes in
    let h = take d.held text in
    let x = output (answers_by Alone d.sound book (ended (h ++ piece))) in
    let i = fed f in
    let k : take r.desk.held text' ≡ short (begun (h ++ piece)) =
    front text₁ (short (begun (h ++ piece))) text' r.desk.held (ap (λ z. z.held) t.desk ∙ ap (λ z. length (short (begun z))) e)
    (t.text ∙ ap (λ z. laid text₁ 0 (short (begun z))) e) in
    let s : r.desk.sound ≡ d.sound = ap (λ z. z.sound) t.desk in
    told_more d.sound book h piece pieces book' (take r.written out') written after
    (t.book ∙ ap (λ z. book_by Alone d.sound book (ended z)) e)
    (front out x out' r.written (t.written ∙ ap (λ z. length (output (answers_by Alone d.sound book (ended z)))) e)
    (t.out ∙ ap (λ z. laid out 0 (output (answers_by Alone d.sound book (ended z)))) e))
    (rw (k, s) at i)

-- ---- THE THEOREM

module _ (b text : List ℕ) (pieces : List (List ℕ)) (written after : List ℕ) (f : Fed (record { held = 0; sound = sound b }) b text pieces written after) where
  abbrev ls : List (List ℕ)
  ls = lines_of (joined pieces)

  lines_cut : cut (lines_in [] pieces) ≡ cut ls
  lines_cut = cut_lines pieces [] open_none

  outputs_whole : written ≡ output (answers_of b ls)
  outputs_whole =
      let s = sound b in
      (fed f).outputs ∙ ap output (sym (answers_cut s b (lines_in [] pieces)) ∙ ap (answers_by Alone s b) lines_cut ∙ answers_cut s b ls)

  book_whole : after ≡ book_by Alone (sound b) b ls
  book_whole =
      let s = sound b in
      (fed f).book ∙ sym (book_cut s b (lines_in [] pieces)) ∙ ap (book_by Alone s b) lines_cut ∙ book_cut s b ls

pub whole : Whole
whole b text pieces written after f = record {
  outputs = outputs_whole b text pieces written after f;
  book = book_whole b text pieces written after f;
  sent = rw (book_whole b text pieces written after f) (submits Alone (sound b) b (lines_of (joined pieces)) refl);
}

-- ---- demand 3

run : (b : List ℕ) (ls : List (List ℕ)) → Run b (singles ls) (answers_of b ls)
run b ls = run_singles ls (submits Alone (sound b) b ls refl)

pub desk_alone : DeskAlone
desk_alone lent emptied e text pieces written after f =
    let ls = lines_of (joined pieces) in
    record {
      answers = answers_of emptied ls;
      outputs = (whole emptied text pieces written after f).outputs;
      alone = λ a low high. one_alone_lines lent emptied e ls (answers_of emptied ls) (run emptied ls) a low high;
    }
