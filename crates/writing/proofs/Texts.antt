-- Bytes added one after the other are texts added one after the other.
use Prim.Native.Nat.{ℕ, zero, suc, ◌+◌, ◌/◌, ◌%◌, ◌≤◌, ◌<◌}
use mathlib.Core.Path.{◌≡◌, refl, ap, sym, ◌∙◌}
use mathlib.Core.List.{List, [], ◌∷◌, ◌++◌, append_assoc, append-nil}
use native.Mathlib.Numerals.{add-one}
use native.Mathlib.Omega.{arith}
use lib.Dec.{ltb}
use lib.ListN.{length, get_or, take, drop, length-append, drop_of_length-le}
use lib.Seq.{drop-cons, take_all}
use borrow.Author.Tests.{ltb-true, ltb-false, lt-ltb, le-ltb}
use Rattle.tables.proofs.Counts.{cases}
use Rattle.meaning.specs.Text.{numeral}
use Rattle.meaning.specs.Printing.{listed}
use Rattle.meaning.proofs.Numerals.{numeral_one, numeral_more}
use Rattle.writing.specs.Written.{space, added, added_all, written_as}

-- ---- one byte more

module _ (w : List ℕ) (c : ℕ) where
  pub no_room : space ≤ length w → w ≡ added w c
  unfolding added
  no_room h = rw (le-ltb (length w) space h)

  pub some_room : length w < space → w ++ (c ∷ []) ≡ added w c
  unfolding added
  some_room h = rw (lt-ltb (length w) space h)

-- ---- texts

pub then : (w : List ℕ) (s t : List ℕ) → added_all (added_all w s) t ≡ added_all w (s ++ t)
unfolding added_all
then w [] t = refl
then w (c ∷ s) t = then (added w c) s t

-- a byte is a text
pub one : (w : List ℕ) (c : ℕ) → added w c ≡ added_all w (c ∷ [])
unfolding added_all
one w c = refl

-- before byte i of a text: what is written, with what is left of the text, gives the whole
pub record TextTo (w : List ℕ) (text : List ℕ) (v : List ℕ) (i : ℕ) : Type 0 where
  pub left : added_all v (drop i text) ≡ added_all w text

module _ {w v : List ℕ} {text : List ℕ} {i : ℕ} where
  pub text_next : {u : List ℕ} → TextTo w text v i → i < length text → u ≡ added v (get_or text i 0) → TextTo w text u (i + 1)
  unfolding added_all
  text_next r h e = record { left = rw (e, add-one i) (rw (drop-cons text i 0 h) at r.left) }

  pub text_end : TextTo w text v i → length text ≤ i → v ≡ added_all w text
  unfolding added_all
  text_end r h = rw (drop_of_length-le text h) at r.left

-- ---- numbers

module _ (w : List ℕ) {r : List ℕ} {d : ℕ} (n : ℕ) where
  pub one_digit : n < 10 → d ≡ 48 + n → r ≡ added w d → r ≡ added_all w (numeral n)
  unfolding added_all
  one_digit h e f = rw (numeral_one n h) (cc)

  pub more_digits : {v : List ℕ} → 10 ≤ n → v ≡ added_all w (numeral (n / 10)) → d ≡ 48 + n % 10 → r ≡ added v d → r ≡ added_all w (numeral n)
  more_digits {v} h a e f = rw (numeral_more n h, ← then w (numeral (n / 10)) ((48 + n % 10) ∷ []), ← a, ← e, ← one v d) f

-- before number i of a list: what is written, with the numbers that are left, gives the whole
pub record ListTo (w : List ℕ) (ns : List ℕ) (v : List ℕ) (i : ℕ) : Type 0 where
  pub left : added_all v (listed (drop i ns)) ≡ added_all w (listed ns)

module _ {w v : List ℕ} {ns : List ℕ} {i : ℕ} where
  pub list_next : {q u : List ℕ} → ListTo w ns v i → i < length ns → u ≡ added_all q (numeral (get_or ns i 0)) → q ≡ added v 44 → ListTo w ns u (i + 1)
  unfolding added_all listed
  list_next r h e a = record { left = rw (e, a, then, add-one i) (rw (drop-cons ns i 0 h) at r.left) }

  pub list_end : ListTo w ns v i → length ns ≤ i → v ≡ added_all w (listed ns)
  unfolding added_all listed
  list_end r h = rw (drop_of_length-le ns h) at r.left

-- ---- what does not fit is left out

take_front : (n : ℕ) (w t : List ℕ) → length w ≡ n → take n (w ++ t) ≡ w
take_front zero [] t h = refl
take_front zero (x ∷ w) t h = absurd (omega arith)
take_front (suc n) [] t h = absurd (omega arith)
take_front (suc n) (x ∷ w) t h = ap (λ l. x ∷ l) (take_front n w t (omega arith))

-- texts added to one that fits
pub all_taken : (t w : List ℕ) → length w ≤ space → added_all w t ≡ written_as (w ++ t)
unfolding added_all
all_taken [] w h = sym (rw append-nil (take_all space w h))
all_taken (c ∷ t) w h =
    cases (ltb (length w) space)
    (λ e.
    let k = ltb-true (length w) space e in
    rw (← (some_room w c k))
    (all_taken t (w ++ (c ∷ [])) (omega (arith, length-append w (c ∷ []))) ∙ ap written_as (append_assoc w (c ∷ []) t)))
    (λ e.
    let k : length w ≡ space = omega (arith, ltb-false (length w) space e) in
    rw (← (no_room w c (omega arith))) (all_taken t w h ∙ take_front space w t k ∙ sym (take_front space w (c ∷ t) k)))

-- A text that fits is written whole.
pub fits : (t : List ℕ) → length t ≤ space → written_as t ≡ t
fits t h = take_all space t h
