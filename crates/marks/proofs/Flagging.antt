-- Laws of a table with flags to an entry, for any number of them, any table of records, key and test.
use Prim.Native.Nat.{ℕ, zero, suc, ◌+◌, ◌*◌, ◌/◌, ◌%◌, ◌^◌, ◌≤◌, ◌<◌}
use mathlib.Core.Path.{◌≡◌, refl, ap, ap₂, sym, ◌∙◌, fun_ext}
use mathlib.Core.Bool.{Bool, true, false, ◌&&◌, ◌||◌, cond}
use mathlib.Core.List.{List}
use native.Mathlib.Nat.{pow-succ'}
use native.Mathlib.Omega.{arith}
use lib.Bits.{bit_and, bit_or, and_mask, or_step, or_zero_r, or_lt}
use lib.Dec.{eqb, ltb, eqb-suc-suc}
use lib.ListN.{get_or-eq_default}
use lib.Pow.{shr-shr}
use borrow.Author.Tests.{eq-eqb, ne_eqb, eqb-false, ltb-true, ltb-false}
use Rattle.std.proofs.lemmas.Nat.{div-add-mod', div_below, le-div, pow_below, one_shl}
use Rattle.tables.specs.Below.{any_below}
use Rattle.tables.specs.Keyed.{hits, entry, keys, Keyed}
use Rattle.tables.proofs.Counts.{cases, cases_eq}
use Rattle.marks.specs.Flags.{weight, flag, with_flag, flagged}

-- ---- one entry

pub flag_none : (j : ℕ) → flag j 0 ≡ false
unfolding flag
flag_none zero = refl
flag_none (suc j) = flag_none j

flag_added : (i j x : ℕ) → flag j x ≡ false → flag i (x + weight j) ≡ (eqb i j || flag i x)
unfolding weight flag
flag_added zero zero x e = eq-eqb ((x + 1) % 2) 1 (omega (arith, eqb-false (x % 2) 1 e))
flag_added zero (suc j) x e =
    let s : (x + weight j * 2) % 2 ≡ x % 2 = omega arith in
    rw (ne_eqb 0 (suc j) (λ z. omega arith)) (ap (λ z. eqb z 1) s)
flag_added (suc i) zero x e =
    let s : (x + 1) / 2 ≡ x / 2 = omega (arith, eqb-false (x % 2) 1 e) in
    rw (ne_eqb (suc i) 0 (λ z. omega arith)) (ap (flag i) s)
flag_added (suc i) (suc j) x e =
    let s : (x + weight j * 2) / 2 ≡ x / 2 + weight j = omega arith in
    rw (eqb-suc-suc i j) (ap (flag i) s ∙ flag_added i j (x / 2) e)

-- An entry with one flag more.
pub flag_with : (i j x : ℕ) → flag i (with_flag j x) ≡ (eqb i j || flag i x)
unfolding with_flag
flag_with i j x =
    cases (flag j x)
    (λ e. rw e (cases_eq i j (λ s. rw (s, eq-eqb j j refl) e) (λ s. rw (ne_eqb i j s))))
    (λ e. rw e (flag_added i j x e))

-- The flags are the bits: flag j is found by a shift, and put in by an or.
flag_shifted : (j x : ℕ) → eqb (x / 2 ^ j % 2) 1 ≡ flag j x
unfolding flag
flag_shifted zero x = let e : x / 2 ^ 0 ≡ x = omega arith in rw e
flag_shifted (suc j) x =
    let e : suc j ≡ 1 + j = omega arith in
    let h : x / 2 ^ 1 ≡ x / 2 = omega arith in
    rw (e, ← shr-shr x 1 j, h) (flag_shifted j (x / 2))

flag_joined : (j x : ℕ) → bit_or x (2 ^ j) ≡ with_flag j x
unfolding weight flag with_flag
flag_joined zero x =
    or_step x 1
    ∙ rw (or_zero_r (x / 2))
    (cases_eq (x % 2) 1
    (λ e. rw e (omega arith))
    (λ e. rw (ne_eqb (x % 2) 1 e) (omega arith)))
flag_joined (suc j) x =
    let h : 2 ^ suc j / 2 ≡ 2 ^ j = omega (arith, pow-succ' 2 j) in
    let l : 2 ^ suc j % 2 ≡ 0 = omega (arith, pow-succ' 2 j) in
    let f = flag_joined j (x / 2) in
    or_step x (2 ^ suc j)
    ∙ rw (h, l, f)
    (cases (flag j (x / 2))
    (λ e. rw e (omega arith))
    (λ e. rw e (omega arith)))

-- As the code writes both.
pub flag_by : (j x : ℕ) → eqb (bit_and (x / 2 ^ j) 1) 1 ≡ flag j x
flag_by j x = ap (λ y. eqb y 1) (and_mask (x / 2 ^ j) 1) ∙ flag_shifted j x

pub joined_by : (j x : ℕ) → j < 8 → bit_or x (1 * 2 ^ j % 256) ≡ with_flag j x
joined_by j x l = let e : 1 * 2 ^ j % 256 ≡ 2 ^ j = one_shl j 8 l in rw e (flag_joined j x)

-- A byte with a flag is a byte.
pub with_byte : (j x : ℕ) → j < 8 → x < 256 → with_flag j x < 256
with_byte j x l h = rw (← flag_joined j x) (or_lt 8 x (2 ^ j) h (pow_below j 8 l))

-- ---- the table

-- Keys are equal exactly if entry and flag are.
key_parts : (n k m : ℕ) → eqb m k ≡ (eqb (m / n) (k / n) && eqb (k % n) (m % n))
key_parts n k m =
    cases_eq (m / n) (k / n)
    (λ e.
    cases_eq (k % n) (m % n)
    (λ f.
    let s : m ≡ k = sym (div-add-mod' m n) ∙ ap₂ (λ a b. a * n + b) e (sym f) ∙ div-add-mod' k n in
    rw (eq-eqb (m / n) (k / n) e, eq-eqb (k % n) (m % n) f) (eq-eqb m k s))
    (λ f. rw (eq-eqb (m / n) (k / n) e, ne_eqb (k % n) (m % n) f) (ne_eqb m k (λ z. f (sym (ap (λ y. y % n) z))))))
    (λ e. rw (ne_eqb (m / n) (k / n) e) (ne_eqb m k (λ z. e (ap (λ y. y / n) z))))

-- With that many flags to an entry.
module _ (per : ℕ) where
  -- One place more, of key m, that is the depository's or not (c) and on or not (o).
  flag_more : (c o : Bool) (k m x : ℕ) (r : Bool) → flag (k % per) x ≡ r
      → flag (k % per) (cond (c && (o && eqb (m / per) (k / per))) (with_flag (m % per) x) x) ≡ ((c && (o && eqb m k)) || r)
  flag_more true true k m x r h =
      rw (key_parts per k m)
      (cases (eqb (m / per) (k / per))
      (λ e. rw e (flag_with (k % per) (m % per) x ∙ ap (λ z. eqb (k % per) (m % per) || z) h))
      (λ e. rw e h))
  flag_more true false k m x r h = h
  flag_more false o k m x r h = h

  module _ {P : Type 0} (size : ℕ) (csd : P → ℕ) (a : ℕ) (at : ℕ → P) (key : P → ℕ) (on : P → Bool) where
    -- Flag k % per of the entry at k / per tells whether a place hits the key k.
    entry_flag : (k n : ℕ)
        → flag (k % per) (entry csd a at (λ p. key p / per) on (λ p m. with_flag (key p % per) m) (k / per) n)
        ≡ any_below (hits csd a at key on k) n
    unfolding entry any_below
    entry_flag k zero = flag_none (k % per)
    entry_flag k (suc n) =
        flag_more (eqb (csd (at n)) a) (on (at n)) k (key (at n))
        (entry csd a at (λ p. key p / per) on (λ p m. with_flag (key p % per) m) (k / per) n)
        (any_below (hits csd a at key on k) n) (entry_flag k n)

    -- After the last place, the table has the flags of the keys that are hit.
    pub keyed_flags : 0 < per → (t : List ℕ) (i n all : ℕ)
        → Keyed size csd a at (λ p. key p / per) on (λ p m. with_flag (key p % per) m) t i → i ≡ n → all ≡ size * per
        → flagged per t ≡ keys csd a at key on all n
    unfolding flagged keys
    keyed_flags some t i n all m e s =
        fun_ext (λ k.
        cases (ltb k all)
        (λ f.
        let low : k < size * per = rw s at (ltb-true k all f) in
        rw f
        (ap (flag (k % per)) (m.each (k / per) (div_below k per size some low))
        ∙ entry_flag k i ∙ ap (any_below (hits csd a at key on k)) e))
        (λ f.
        let high : size * per ≤ k = rw s at (ltb-false k all f) in
        rw (f, get_or-eq_default t 0 {n = k / per} (rw m.long (le-div size k per some high)))
        (flag_none (k % per))))
