-- What the code's loops and searches over bytes have to do with the lists of the meaning. Each loop has a record, its
-- invariant: what was found before index i, with what is left from i on, gives the whole.
use mathlib.Core.Path.{◌≡◌, refl, ap, sym, ◌∙◌}
use mathlib.Core.Bool.{Bool, true, false, not, cond, ◌&&◌, and_assoc, and-true, and-false}
use mathlib.Core.List.{List, [], ◌∷◌, map, foldl}
use Prim.Native.Nat.{ℕ, zero, suc, ◌+◌, ◌*◌, ◌-◌, ◌≤◌, ◌<◌, min}
use native.Mathlib.Numerals.{add-one}
use native.Mathlib.Omega.{arith}
use lib.Dec.{eqb, ltb, leb}
use lib.ListN.{length, get_or, drop, drop_of_length-le}
use borrow.Author.Tests.{ltb-true, ltb-false, leb-true, leb-false, lt-leb, le-leb}
use denote.Ref.{Bor}
use Rattle.std.specs.Prelude.{Option, Some, None}
use Rattle.std.specs.List.{list_all, position_or_len}
use Rattle.std.specs.Cmp.Lexicographic.{pointwise}
use Rattle.tables.specs.Count.{every}
use Rattle.tables.proofs.Counts.{cases}
use Rattle.meaning.specs.Text.{same, word_place, decimal, word}
use Rattle.meaning.specs.Fields.{is_digit}
use Rattle.meaning.specs.Forms.{is_number, read, one_of}
use Rattle.fields.proofs.Cutting.{next}

-- ---- a test of every byte

pub every_all : (p : ℕ → Bool) (l : List ℕ) → list_all p l ≡ every p l
unfolding every
every_all p [] = refl
every_all p (x ∷ l) = ap (λ b. p x && b) (every_all p l)

-- the same by a loop over indices
pub record EveryTo (p : ℕ → Bool) (l : List ℕ) (t : Bool) (i : ℕ) : Type 0 where
  pub left : (t && every p (drop i l)) ≡ every p l

pub every_next : {p : ℕ → Bool} {l : List ℕ} {t t' q : Bool} {i : ℕ} → EveryTo p l t i → i < length l → q ≡ p (get_or l i 0) → t' ≡ (t && q)
    → EveryTo p l t' (i + 1)
unfolding every
every_next {p} {l} {t} {i = i} r h e f =
    record { left = rw (f, e) (and_assoc t (p (get_or l i 0)) (every p (drop (i + 1) l)) ∙ rw (next l i h) at r.left) }

pub every_end : {p : ℕ → Bool} {l : List ℕ} {t : Bool} {i : ℕ} → EveryTo p l t i → length l ≤ i → t ≡ every p l
unfolding every
every_end {l = l} {t} r h = sym (and-true t) ∙ rw (drop_of_length-le l h) at r.left

-- ---- one of a few words

same_bytes : (a b : List ℕ) → pointwise eqb a b ≡ same a b
same_bytes [] [] = refl
same_bytes [] (y ∷ b) = refl
same_bytes (x ∷ a) [] = refl
same_bytes (x ∷ a) (y ∷ b) = ap (λ t. eqb x y && t) (same_bytes a b)

-- the words, and where the code finds one of them
abbrev pub texts : List (Bor (List ℕ)) → List (List ℕ)
texts = map (λ w. w.now)

abbrev pub found : List ℕ → List (Bor (List ℕ)) → ℕ
found f = position_or_len (λ w. pointwise eqb f w.now)

place_found : (f : List ℕ) (ws : List (Bor (List ℕ))) → word_place f (texts ws) ≡ suc (found f ws)
place_found f [] = refl
place_found f (w ∷ ws) = rw (← (same_bytes f w.now)) (go (pointwise eqb f w.now) (place_found f ws))
  where
    go : (b : Bool) → word_place f (texts ws) ≡ suc (found f ws) → cond b 1 (suc (word_place f (texts ws))) ≡ suc (cond (not b) (1 + found f ws) 0)
    go true e = refl
    go false e = omega (arith, e)

texts_long : (ws : List (Bor (List ℕ))) → length (texts ws) ≡ length ws
texts_long [] = refl
texts_long (w ∷ ws) = ap suc (texts_long ws)

module _ (f : List ℕ) (ws : List (Bor (List ℕ))) {r : Option ℕ} (e : r ≡ cond (ltb (found f ws) (length ws)) (Some (found f ws)) None) where
  pub no_word : r ≡ None → None ≡ read (one_of (texts ws)) f
  unfolding read
  no_word h =
      cases (ltb (found f ws) (length ws))
      (λ t. let z = rw (t, h) at e in cc)
      (λ t. let k = ltb-false _ _ t in rw (place_found f ws, texts_long ws, lt-leb (suc (found f ws)) (length ws) (omega arith)))

  pub some_word : {p : ℕ} → r ≡ Some p → Some (p + 1) ≡ read (one_of (texts ws)) f
  unfolding read
  some_word {p} h =
      cases (ltb (found f ws) (length ws))
      (λ t.
      let k = ltb-true _ _ t in
      let z = rw (t, h) at e in
      let q : p ≡ found f ws = cc in
      rw (place_found f ws, texts_long ws, le-leb (suc (found f ws)) (length ws) (omega arith), add-one p, q))
      (λ t. let z = rw (t, h) at e in cc)

-- ---- decimal numbers

abbrev pub large : ℕ
large = 100000000

abbrev pub digits : ℕ → List ℕ → ℕ
digits = foldl (λ n c. 10 * n + (c - 48))

digits_grow : (l : List ℕ) (n : ℕ) → n ≤ digits n l
digits_grow [] n = omega arith
digits_grow (c ∷ cs) n = omega (arith, digits_grow cs (10 * n + (c - 48)))

-- a number given up to that bound leads to the same number up to it
digits_capped : (l : List ℕ) (n : ℕ) → min (digits (min n large) l) large ≡ min (digits n l) large
digits_capped l n =
    cases (leb n large)
    (λ e. let h = leb-true n large e in let q : min n large ≡ n = omega arith in rw q)
    (λ e.
    let h = leb-false n large e in
    omega (arith, digits_grow l n, digits_grow l (min n large)))

pub record DecimalTo (l : List ℕ) (n i : ℕ) : Type 0 where
  pub small : n ≤ large
  pub left : min (digits n (drop i l)) large ≡ min (decimal l) large

module _ {l : List ℕ} {n i : ℕ} where
  pub decimal_next : {d m : ℕ} → DecimalTo l n i → i < length l → d ≡ get_or l i 0 - 48 → m ≡ min (10 * n + d) large → DecimalTo l m (i + 1)
  decimal_next {d} r h e f = record {
    small = omega arith;
    left = rw f (digits_capped (drop (i + 1) l) (10 * n + d) ∙ rw e (rw (next l i h) at r.left));
  }

-- ---- letters as a number

-- numbers of i letters are below this one
abbrev bound : ℕ → ℕ
bound zero = 1
bound (suc i) = 256 * bound i

abbrev letter_digits : ℕ → List ℕ → ℕ
letter_digits = foldl (λ n c. 256 * n + c)

pub record WordTo (l : List ℕ) (n i : ℕ) : Type 0 where
  pub small : n < bound i
  pub left : letter_digits n (drop i l) ≡ word l

-- ---- numbers without leading zeros

module _ (f : List ℕ) {t : Bool} (e : t ≡ every is_digit f) where
  pub all_digits : {x : ℕ} → t ≡ true → x ≡ get_or f 0 0 → ltb 48 x ≡ is_number f
  unfolding is_number
  all_digits {x} h g = rw (← e, h, ← g) (sym (and-true (ltb 48 x)))

  pub other_bytes : t ≡ false → t ≡ is_number f
  unfolding is_number
  other_bytes h = rw (← e, h) (sym (and-false (ltb 48 (get_or f 0 0))))
