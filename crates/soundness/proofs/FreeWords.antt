-- Free places by their words: words are 0 exactly if all their bytes are.
use Rattle.std.proofs.Common.{◌≡◌, ℕ, zero, suc, ◌+◌, ◌-◌, ◌*◌, ◌<◌, ◌≤◌, Bool, true, false, not, ◌&&◌, eqb, ltb, List, [], ◌∷◌, ◌++◌, get_or, sym, refl, ap, ◌∙◌, add-mul, mul-le-mul, arith, ltb-false, ltb-true, eq-eqb, eqb-true}
use mathlib.Core.Bool.{and_assoc, and-true, and-false}
use lib.Bits.{bit_or, and_le_l, and_le_r, or_add_and}
use borrow.Author.Tests.{not-false}
use Rattle.tables.specs.Bytes.{byte_at, Width, one, two, three, four, number, numbers}
use Rattle.tables.specs.Count.{every, all_below}
use Rattle.tables.proofs.Counts.{cases, both, agree, all_at, all_put}
use Rattle.places.specs.Layout.{book_size}
use Rattle.chains.specs.Sizes.{block_places}
use Rattle.chains.specs.Blocks.{zero_from, Wide, FreeFirst}
use Rattle.records.specs.Free.{all_zero, type_zero, rule_zero, row_zero, period_zero}
use Rattle.soundness.specs.Reads.{type_read, rule_read, row_read, period_read, eight_at, seven_after}
use Rattle.soundness.specs.Kind as Kinds
use Rattle.soundness.specs.Kinds.{free_at}
use Rattle.soundness.proofs.WordReads.{words_zero}
use Rattle.soundness.proofs.SameWords.{rule_key_widths, kind_widths, front_widths, middle_widths, tail_widths, rule_key_word, kind_word, front_word_lem, middle_word_lem, tail_word_lem, front_read, tail_read}

-- ---- places

zero_split : (us vs : List ℕ) → (all_zero us && all_zero vs) ≡ all_zero (us ++ vs)
unfolding all_zero every
zero_split [] vs = refl
zero_split (u ∷ us) vs =
    and_assoc (eqb u 0) (all_zero us) (all_zero vs) ∙ ap (λ (t : Bool). eqb u 0 && t) (zero_split us vs)

abbrev day_widths : List Width
day_widths = four ∷ four ∷ []

module _ (b : List ℕ) (at : ℕ) where
  days_zero : {x : ℕ} (j : ℕ) → x ≡ eight_at b at j → eqb x 0 ≡ all_zero (numbers day_widths b at j)
  days_zero {x} j e = words_zero day_widths b at j x (e ∙ omega arith)

  key_zero : {x : ℕ} → x ≡ number four b at 0 → eqb x 0 ≡ all_zero (numbers rule_key_widths b at 0)
  key_zero {x} e = words_zero rule_key_widths b at 0 x (e ∙ rule_key_word b at)

  pub type_free : {x y : ℕ} → x ≡ number four b at 0 → y ≡ eight_at b at 4
      → (eqb x 0 && eqb y 0) ≡ free_at b Kinds.Types at
  unfolding free_at type_zero type_read
  type_free e f =
      rw (key_zero e, days_zero 4 f) (zero_split (numbers rule_key_widths b at 0) (numbers day_widths b at 4))

  pub rule_free : {x y z : ℕ} → x ≡ number four b at 0 → y ≡ number three b at 4 → z ≡ eight_at b at 7
      → (eqb x 0 && (eqb y 0 && eqb z 0)) ≡ free_at b Kinds.Rules at
  unfolding free_at rule_zero rule_read
  rule_free {x} {y} {z} e f g =
      rw (key_zero e, words_zero (one ∷ two ∷ []) b at 4 y (f ∙ omega arith), days_zero 7 g)
      (ap (λ (t : Bool). all_zero (numbers rule_key_widths b at 0) && t) (zero_split (numbers (one ∷ two ∷ []) b at 4) (numbers day_widths b at 7))
      ∙ zero_split (numbers rule_key_widths b at 0) (numbers (one ∷ two ∷ []) b at 4 ++ numbers day_widths b at 7))

  pub row_free : {x y z w : ℕ} → x ≡ number four b at 0 → y ≡ seven_after b at 3 → z ≡ eight_at b at 11
      → w ≡ seven_after b at 18 → ((eqb x 0 && eqb y 0) && (eqb z 0 && eqb w 0)) ≡ free_at b Kinds.Rows at
  unfolding free_at row_zero row_read
  row_free {x} {y} {z} {w} e f g h =
      rw (
        key_zero e,
        words_zero front_widths b at 4 y (front_read b at f ∙ front_word_lem b at),
        words_zero middle_widths b at 11 z (g ∙ middle_word_lem b at),
        words_zero tail_widths b at 19 w (tail_read b at h ∙ tail_word_lem b at),
        zero_split (numbers rule_key_widths b at 0) (numbers front_widths b at 4),
        zero_split (numbers middle_widths b at 11) (numbers tail_widths b at 19),
      )
      (zero_split (numbers rule_key_widths b at 0 ++ numbers front_widths b at 4) (numbers middle_widths b at 11 ++ numbers tail_widths b at 19))

  pub period_free : {x y z w : ℕ} → x ≡ number two b at 0 → y ≡ number three b at 2 → z ≡ number two b at 5
      → w ≡ eight_at b at 7 → ((eqb x 0 && eqb y 0) && (eqb z 0 && eqb w 0)) ≡ free_at b Kinds.Periods at
  unfolding free_at period_zero period_read
  period_free {x} {y} {z} {w} e f g h =
      rw (
        words_zero kind_widths b at 0 x (e ∙ kind_word b at),
        words_zero (three ∷ []) b at 2 y (f ∙ omega arith),
        words_zero (two ∷ []) b at 5 z (g ∙ omega arith),
        days_zero 7 h,
        zero_split (numbers kind_widths b at 0) (numbers (three ∷ []) b at 2),
        zero_split (numbers (two ∷ []) b at 5) (numbers day_widths b at 7),
      )
      (zero_split (numbers kind_widths b at 0 ++ numbers (three ∷ []) b at 2) (numbers (two ∷ []) b at 5 ++ numbers day_widths b at 7))

-- ---- words and their bytes

or_zero : (x w : ℕ) → eqb (bit_or x w) 0 ≡ (eqb x 0 && eqb w 0)
or_zero x w =
    agree (eqb (bit_or x w) 0) (eqb x 0 && eqb w 0)
    (λ t.
    let e = eqb-true (bit_or x w) 0 t in
    let p : x ≡ 0 = omega (arith, e, or_add_and x w, and_le_r x w) in
    let q : w ≡ 0 = omega (arith, e, or_add_and x w, and_le_l x w) in
    rw (eq-eqb x 0 p, eq-eqb w 0 q))
    (λ t.
    let p = both (eqb x 0) (eqb w 0) t in
    eq-eqb (bit_or x w) 0 (omega (arith, or_add_and x w, eqb-true x 0 p.0, eqb-true w 0 p.1)))

module _ (b : List ℕ) (at : ℕ) where
  four_bytes : (m : ℕ) → number four b at m ≡ 0 → (i : ℕ) → i < 4 → byte_at b (at + (m + i)) ≡ 0
  four_bytes m e zero l = let z : m + 0 ≡ m = omega arith in rw z (omega (arith, e))
  four_bytes m e (suc zero) l = omega (arith, e)
  four_bytes m e (suc (suc zero)) l = omega (arith, e)
  four_bytes m e (suc (suc (suc zero))) l = omega (arith, e)
  four_bytes m e (suc (suc (suc (suc i)))) l = absurd (omega arith)

  four_none : (m : ℕ) → ((i : ℕ) → i < 4 → byte_at b (at + (m + i)) ≡ 0) → number four b at m ≡ 0
  four_none m h =
      let z : m + 0 ≡ m = omega arith in
      omega (arith, rw z at (h 0 (omega arith)), h 1 (omega arith), h 2 (omega arith), h 3 (omega arith))

  -- the byte at m + i of eight, by its half
  eight_bytes : (m : ℕ) → eight_at b at m ≡ 0 → (i : ℕ) → i < 8 → byte_at b (at + (m + i)) ≡ 0
  eight_bytes m e i l =
      cases (ltb i 4) (λ t. four_bytes m (omega (arith, e)) i (ltb-true i 4 t))
      (λ t.
      let g = ltb-false i 4 t in
      let z : m + 4 + (i - 4) ≡ m + i = omega (arith, g) in
      rw z at (four_bytes (m + 4) (omega (arith, e)) (i - 4) (omega (arith, g))))

  eight_none : (m : ℕ) → ((i : ℕ) → i < 8 → byte_at b (at + (m + i)) ≡ 0) → eight_at b at m ≡ 0
  eight_none m h =
      let low = four_none m (λ i l. h i (omega arith)) in
      let high = four_none (m + 4) (λ i l. let z : m + (4 + i) ≡ m + 4 + i = omega arith in rw z at (h (4 + i) (omega arith))) in
      omega (arith, low, high)

-- ---- runs of zeros

module _ (b : List ℕ) where
  -- two runs that meet or lap
  zero_lap : (at m k l : ℕ) → k ≤ m → m ≤ k + l
      → (zero_from b at m && zero_from b (at + k) l) ≡ zero_from b at (k + l)
  unfolding zero_from
  zero_lap at m k l low high =
      agree (zero_from b at m && zero_from b (at + k) l) (zero_from b at (k + l)) (λ t. forth t) (λ t. back t)
    where
      p : ℕ → ℕ → Bool
      p from j = eqb (get_or b (from + j) 0) 0

      forth : (zero_from b at m && zero_from b (at + k) l) ≡ true → all_below (p at) (k + l) ≡ true
      forth t =
          let h = both (zero_from b at m) (zero_from b (at + k) l) t in
          all_put (p at) (k + l)
          (λ i u.
          cases (ltb i m) (λ s. all_at (p at) m h.0 i (ltb-true i m s))
          (λ s.
          let g = ltb-false i m s in
          let z : at + k + (i - k) ≡ at + i = omega (arith, g) in
          rw z at (all_at (p (at + k)) l h.1 (i - k) (omega (arith, g, u)))))

      back : all_below (p at) (k + l) ≡ true → (zero_from b at m && zero_from b (at + k) l) ≡ true
      back t =
          let x : zero_from b at m ≡ true = all_put (p at) m (λ i u. all_at (p at) (k + l) t i (omega (arith, u))) in
          let y : zero_from b (at + k) l ≡ true =
          all_put (p (at + k)) l
          (λ i u.
          let z : at + (k + i) ≡ at + k + i = omega arith in
          rw z at (all_at (p at) (k + l) t (k + i) (omega (arith, u)))) in
          rw (x, y)

  zero_join : (at m l : ℕ) → (zero_from b at m && zero_from b (at + m) l) ≡ zero_from b at (m + l)
  zero_join at m l = zero_lap at m m l (omega arith) (omega arith)

  -- a word
  eight_zero : (at m w : ℕ) → w ≡ eight_at b at m → eqb w 0 ≡ zero_from b (at + m) 8
  unfolding zero_from
  eight_zero at m w e =
      agree (eqb w 0) (zero_from b (at + m) 8)
      (λ t.
      all_put (λ j. eqb (get_or b (at + m + j) 0) 0) 8
      (λ i l.
      let z : at + (m + i) ≡ at + m + i = omega arith in
      eq-eqb (get_or b (at + m + i) 0) 0 (rw z at (eight_bytes b at m (sym e ∙ eqb-true w 0 t) i l))))
      (λ t.
      eq-eqb w 0
      (e
      ∙ eight_none b at m
      (λ i l.
      let z : at + m + i ≡ at + (m + i) = omega arith in
      rw z at (eqb-true (get_or b (at + m + i) 0) 0 (all_at (λ j. eqb (get_or b (at + m + j) 0) 0) 8 t i l)))))

  zero_more : (at w j : ℕ) → w ≡ eight_at b at (8 * j) → (zero_from b at (8 * j) && eqb w 0) ≡ zero_from b at (8 * (j + 1))
  zero_more at w j e =
      let s : 8 * j + 8 ≡ 8 * (j + 1) = omega arith in
      rw (eight_zero at (8 * j) w e, zero_join at (8 * j) 8, s)

-- ---- `runs_zero`

and_eight : (p q r s x y z w : Bool)
    → (((((((p && q) && r) && s) && x) && y) && z) && w) ≡ ((((p && x) && (q && y)) && (r && z)) && (s && w))
and_eight true true true true x y z w = refl
and_eight true true true false x y z w = rw and-false
and_eight true true false s x y z w = rw and-false
and_eight true false r s x y z w = rw and-false
and_eight false q r s x y z w = refl

module _ (b : List ℕ) where
  -- the first j words of four runs
  abbrev pub runs_zero : ℕ → ℕ → ℕ → ℕ → ℕ → Bool
  runs_zero at second third fourth j = ((zero_from b at (8 * j) && zero_from b second (8 * j)) && zero_from b third (8 * j)) && zero_from b fourth (8 * j)

  pub runs_none : (at second third fourth : ℕ) → true ≡ runs_zero at second third fourth 0
  unfolding zero_from all_below
  runs_none at second third fourth = refl

  pub runs_more : (at second third fourth x k j : ℕ) {u v w y : ℕ} → u ≡ eight_at b at k → v ≡ eight_at b second k
      → w ≡ eight_at b third k → y ≡ eight_at b fourth k → k ≡ 8 * j → eqb x 0 ≡ runs_zero at second third fourth j
      → eqb (bit_or (bit_or (bit_or (bit_or x u) v) w) y) 0 ≡ runs_zero at second third fourth (j + 1)
  runs_more at second third fourth x k j {u} {v} {w} {y} e f g h s i =
      rw (or_zero (bit_or (bit_or (bit_or x u) v) w) y, or_zero (bit_or (bit_or x u) v) w, or_zero (bit_or x u) v, or_zero x u, i)
      (and_eight (zero_from b at (8 * j)) (zero_from b second (8 * j)) (zero_from b third (8 * j)) (zero_from b fourth (8 * j)) (eqb u 0) (eqb v 0) (eqb w 0) (eqb y 0)
      ∙ rw (zero_more b at u j (rw s at e), zero_more b second v j (rw s at f), zero_more b third w j (rw s at g), zero_more b fourth y j (rw s at h)))

  pub runs_end : (at n second third fourth x j : ℕ) → eqb x 0 ≡ runs_zero at second third fourth j → j ≡ n
      → second ≡ at + 8 * n → third ≡ at + 16 * n → fourth ≡ at + 24 * n → eqb x 0 ≡ zero_from b at (block_places * n)
  runs_end at n second third fourth x j e i f g h =
      let y : third ≡ at + (8 * n + 8 * n) = g ∙ omega arith in
      let z : fourth ≡ at + (8 * n + 8 * n + 8 * n) = h ∙ omega arith in
      let s : 8 * n + 8 * n + 8 * n + 8 * n ≡ block_places * n = omega arith in
      rw (i, f, y, z, zero_join b at (8 * n) (8 * n), zero_join b at (8 * n + 8 * n) (8 * n), zero_join b at (8 * n + 8 * n + 8 * n) (8 * n), s) at e

-- ---- `width_free`

and_turned : (p s q r : Bool) → (((p && s) && q) && r) ≡ ((p && q) && (r && s))
and_turned true true q r = rw and-true
and_turned true false q r = rw (and-false, and-false)
and_turned false s q r = refl

module _ (b : List ℕ) (at width : ℕ) (h : Wide width) {x y : ℕ} (e : x ≡ eight_at b at 0) (f : y ≡ eight_at b at (width - 8)) where
  pub width_short : width ≤ 16 → eqb (bit_or x y) 0 ≡ zero_from b at width
  width_short l =
      let z : at + 0 ≡ at = omega arith in
      let s : width - 8 + 8 ≡ width = omega (arith, h.least) in
      rw (or_zero x y, eight_zero b at 0 x e, eight_zero b at (width - 8) y f, z, zero_lap b at 8 (width - 8) 8 (omega arith) (omega arith), s)

  pub width_long : {u v : ℕ} → u ≡ eight_at b at 8 → v ≡ eight_at b at (width - 16) → 16 < width
      → eqb (bit_or (bit_or (bit_or x y) u) v) 0 ≡ zero_from b at width
  width_long {u} {v} g i l =
      let z : at + 0 ≡ at = omega arith in
      let t : at + (width - 8) ≡ at + (width - 16) + 8 = omega arith in
      let s : width - 16 + 16 ≡ width = omega arith in
      rw (or_zero (bit_or (bit_or x y) u) v, or_zero (bit_or x y) u, or_zero x y, and_turned (eqb x 0) (eqb y 0) (eqb u 0) (eqb v 0))
      (rw (eight_zero b at 0 x e, eight_zero b at (width - 8) y f, eight_zero b at 8 u g, eight_zero b at (width - 16) v i, z, t, zero_join b at 8 8, zero_join b (at + (width - 16)) 8 8)
      (rw s at (zero_lap b at 16 (width - 16) 16 (omega (arith, h.most)) (omega arith))))

-- ---- `count_free` and `free_first`

module _ (b : List ℕ) (from width : ℕ) where
  pub first_none : FreeFirst b from width 0
  unfolding zero_from all_below
  first_none = record { few = omega arith; free = let z : 0 * width ≡ 0 = omega arith in rw z }

  pub first_all : (r : Bool) → r ≡ zero_from b from (block_places * width) → r ≡ true → FreeFirst b from width block_places
  first_all r e f = record { few = omega arith; free = sym e ∙ f }

  -- a place but the last, and what follows it, ends within the block

  pub first_byte : (at n : ℕ) → n * width ≤ (block_places - 1) * width → at ≡ from + n * width
      → from + block_places * width ≤ book_size → Wide width → at + (0 + 1) ≤ book_size
  first_byte at n l e h w = omega (arith, w.least)

  pub first_few : (n : ℕ) → n < block_places - 1 → (n + 1) * width ≤ (block_places - 1) * width
  first_few n l =
      let u : n + 1 ≤ block_places - 1 = omega arith in
      let w : width ≤ width = omega arith in
      mul-le-mul u w

  pub first_more : (at n : ℕ) (r : Bool) → r ≡ zero_from b at width → not r ≡ false → at ≡ from + n * width
      → n < block_places - 1 → FreeFirst b from width n → FreeFirst b from width (n + 1)
  first_more at n r e f g l m = record {
    few = omega arith;
    free =
        let s : n * width + width ≡ (n + 1) * width = omega (arith, add-mul n 1 width) in
        let z : zero_from b (from + n * width) width ≡ true = rw g at (sym e ∙ not-false r f) in
        let y : (zero_from b from (n * width) && zero_from b (from + n * width) width) ≡ true = rw m.free z in
        rw s at (sym (zero_join b from (n * width) width) ∙ y);
  }

  pub first_done : (n : ℕ) → FreeFirst b from width n → n ≡ block_places - 1 → FreeFirst b from width (block_places - 1)
  first_done n m e = rw e at m

  pub first_at : (at n : ℕ) → at ≡ from + n * width → at + width ≡ from + (n + 1) * width
  first_at at n e = omega (arith, add-mul n 1 width)
