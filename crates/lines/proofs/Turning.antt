-- One line answered, and line after line.
use Prim.Native.Nat.{ℕ, suc, ◌+◌, ◌-◌, ◌*◌, ◌≤◌, ◌<◌}
use mathlib.Core.Path.{◌≡◌, refl, sym, ap, ◌∙◌}
use mathlib.Core.Bool.{Bool, true, false}
use mathlib.Core.List.{List, [], ◌∷◌, ◌++◌}
use native.Mathlib.Omega.{arith}
use lib.Dec.{leb}
use lib.ListN.{length, set, take, drop, length-set, length-drop, length-append}
use lib.Seq.{paste, paste-suc, length-take-le, take-length, take-append_seam, get_or-append_seam}
use borrow.Author.Tests.{lt-ltb}
use borrow.Rule.Slice.PartMut.{put_mid}
use Rattle.std.proofs.lemmas.List.Edits.{length-paste}
use Rattle.meaning.specs.Text.{place}
use Rattle.meaning.specs.Printing.{printed}
use Rattle.meaning.specs.declared.Answer.{Answer}
use Rattle.meaning.specs.declared.Sent.TheVariants.{Alone}
use Rattle.text.specs.Parts.{span_from, Splits}
use Rattle.text.specs.Printed.{Prints}
use Rattle.text.specs.declared.lines.Span.{Span}
use Rattle.answering.specs.Taking.{Answers}
use Rattle.lines.specs.Ended.{ended}
use Rattle.lines.specs.Many.{laid, written_as, Standing, room, one, many, standing, Put, Turn, AnsweredBy}
use Rattle.lines.proofs.Laying.{laid_part}
use Rattle.lines.proofs.Ending.{ended_next, ended_none}

-- ---- an answer written

laid_is : (o t : List ℕ) (at : ℕ) → laid o at t ≡ paste o at t (length t)
unfolding laid
laid_is o t at = ap (λ z. take at o ++ z ++ drop (at + length t) o) (sym (take-length t))

-- one byte more behind bytes that were laid
laid_more : (o t : List ℕ) (at c : ℕ) → at + length t < length o
    → set (laid o at t) (at + length t) c ≡ laid o at (t ++ (c ∷ []))
unfolding laid
laid_more o t at c h =
    let u = t ++ (c ∷ []) in
    let n : length u ≡ suc (length t) = length-append t (c ∷ []) ∙ omega arith in
    let e : take at o ++ t ++ drop (at + length t) o ≡ paste o at u (length t) = ap (λ z. take at o ++ z ++ drop (at + length t) o) (sym (take-append_seam t (c ∷ []))) in
    let g = paste-suc o at u (length t) 0 h (omega (arith, n)) in
    ap (λ z. set z (at + length t) c) e
    ∙ ap (set (paste o at u (length t)) (at + length t)) (sym (get_or-append_seam t c [] 0))
    ∙ g
    ∙ ap (paste o at u) (sym n)
    ∙ ap (λ z. take at o ++ z ++ drop (at + length u) o) (take-length u)

pub put : {o ys p s : List ℕ} {at : ℕ} {a : Answer} → Prints a p → s ≡ p → ys ≡ s → at + 33 ≤ length o
    → Put o at a (at + length s + 1) (set (put_mid at (at + length s - at) o ys) (at + length s) 10)
unfolding written_as laid
put {o} {ys} {p} {s} {at} {a} i d e h =
    let n : length (printed a) ≡ length s = ap length (sym (d ∙ i.text)) in
    let few : length s ≤ 32 = rw d i.few in
    let m = length-append (printed a) (10 ∷ []) in
    let q : put_mid at (at + length s - at) o ys ≡ laid o at (printed a) = laid_part o ys (printed a) at (at + length s - at) (e ∙ d ∙ i.text) (omega (arith, n)) in
    let z : length (laid o at (printed a)) ≡ length o = ap length (laid_is o (printed a) at) ∙ length-paste o at (printed a) (length (printed a)) (omega (arith, n, few)) (omega arith) in
    record {
      whole = rw (q, ← n) (laid_more o (printed a) at 10 (omega (arith, n, few)));
      next = omega (arith, n, m);
      few = rw (length-set, q) (omega (arith, z, few));
      narrow = omega (arith, few);
    }

-- ---- one line

module _ (b b' line o o' : List ℕ) (s : Bool) (at r : ℕ) (x : Answer) where
  pub turned : Answers Alone s b line x b' → Put o at x r o' → Turn s b line o at r b' o'
  unfolding one
  turned a p = record {
    turned = λ k. rw (← a.answered, ← a.bytes, ← p.whole, ← p.next);
    few = p.few;
    narrow = p.narrow;
  }

-- ---- line after line

module _ (s : Bool) where
  many_full : (ls : List (List ℕ)) (z : Standing) → room z ≡ false → many s ls z ≡ z
  unfolding many
  many_full [] z e = refl
  many_full (l ∷ ls) z e = rw e

  many_next : (l : List ℕ) (ls : List (List ℕ)) (z : Standing) → room z ≡ true
      → many s (l ∷ ls) z ≡ many s ls (one s z l)
  unfolding many
  many_next l ls z e = rw e

-- what is left, answered from here on, gives the whole
pub record Going (b₀ text o₀ : List ℕ) (s : Bool) (b o : List ℕ) (read written : ℕ) : Type 0 where
  pub left : many s (ended (drop read text)) (standing b o read written) ≡ many s (ended text) (standing b₀ o₀ 0 0)
  pub inside : read ≤ length text
  pub few : written ≤ length o
  pub narrow : written ≤ 33 * read
  pub book_size_lem : length b ≡ length b₀
  pub out_size : length o ≡ length o₀

module _ {b₀ text o₀ : List ℕ} {s : Bool} where
  module _ {b o : List ℕ} {read written : ℕ} (g : Going b₀ text o₀ s b o read written) where
    came_to : many s (ended (drop read text)) (standing b o read written) ≡ standing b o read written
        → AnsweredBy s b₀ text o₀ (record { read = read; written = written }) b o
    came_to e = record { whole = sym e ∙ g.left; inside = g.inside; few = g.few; narrow = g.narrow }

    pub going_full : {t : Bool} → t ≡ leb (written + 33) (length o) → t ≡ false
        → AnsweredBy s b₀ text o₀ (record { read = read; written = written }) b o
    going_full e f = came_to (many_full s (ended (drop read text)) (standing b o read written) (sym e ∙ f))

    pub going_out : {l : Span} → Splits text read l → length text ≤ l.end
        → AnsweredBy s b₀ text o₀ (record { read = read; written = written }) b o
    unfolding many span_from
    going_out {l} p h = came_to (rw (ended_none text read l.end (ap (λ z. z.end) p.whole) h))

    pub going_on : {t : Bool} {l : Span} {b' o' : List ℕ} {r : ℕ} → t ≡ leb (written + 33) (length o) → t ≡ true
        → Splits text read l → l.end < length text
        → Turn s b (take (l.end - read) (drop read text)) o written r b' o' → length b' ≡ length b → length o' ≡ length o → Going b₀ text o₀ s b' o' l.next r
    unfolding span_from
    going_on {t} {l} {b'} {o'} {r} e f p h u y z =
        let x : l.end ≡ read + place 10 (drop read text) = ap (λ z. z.end) p.whole in
        let w : l.next ≡ l.end + 1 = ap (λ z. z.next) p.whole ∙ rw (← x, lt-ltb l.end (length text) h) in
        let line = take (l.end - read) (drop read text) in
        let n : length line ≡ l.end - read = length-take-le (l.end - read) (drop read text) (omega (arith, length-drop read text)) in
        let v : read + (length line + 1) ≡ l.next = omega (arith, n, w, p.from) in
        let q : one s (standing b o read written) line ≡ standing b' o' l.next r = u.turned read ∙ ap (λ k. standing b' o' k r) v in
        record {
          left =
              ap (λ k. many s (ended (drop k text)) (standing b' o' l.next r)) w
              ∙ ap (many s (ended (drop (l.end + 1) text))) (sym q)
              ∙ sym (many_next s line (ended (drop (l.end + 1) text)) (standing b o read written) (sym e ∙ f))
              ∙ ap (λ ls. many s ls (standing b o read written)) (sym (ended_next text read l.end x h))
              ∙ g.left;
          inside = omega (arith, w);
          few = u.few;
          narrow = omega (arith, w, p.from, g.narrow, u.narrow);
          book_size_lem = y ∙ g.book_size_lem;
          out_size = z ∙ g.out_size;
        }
