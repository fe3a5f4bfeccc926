-- The 13 bytes as the meaning's list of type numbers: which are among them, when no bit is spare, and what marks that
-- are put in leave.
use Prim.Native.Nat.{ℕ, zero, suc, ◌/◌, ◌%◌, ◌≤◌, ◌<◌}
use mathlib.Core.Path.{◌≡◌, refl, ap, sym, ◌∙◌}
use mathlib.Core.Bool.{Bool, true, false, not, ◌&&◌, ◌||◌, and-false, or-true}
use mathlib.Core.List.{List, []}
use native.Mathlib.Omega.{arith}
use lib.Dec.{eqb, ltb}
use lib.ListN.{length, get_or, replicate, length-set, get_or-eq_default}
use lib.Seq.{get_or-set_same, get_or-set_other}
use borrow.Author.Tests.{eq-eqb, ne_eqb, ltb-true, ltb-false, not-true}
use Rattle.tables.proofs.Counts.{cases, cases_eq, both, agree}
use Rattle.meaning.specs.Pending.{numbers_from, types_which, among, are_types}
use Rattle.meaning.proofs.Remembered.{which_types, types_which_lem}
use Rattle.marks.specs.Flags.{with_flag, flagged}
use Rattle.marks.proofs.Flagging.{flag_none, flag_with, with_byte}
use Rattle.memory.specs.Remembered.{bit_of, types_in, spare_clear, type_bits, with_type, with_types_to, with_types}
use Rattle.memory.proofs.Numbered.{among_within, among_past, which_only, which_zero, which_past, which_same}

-- ---- which numbers are among them

pub among_types : (m : List ℕ) (n : ℕ) → n < 104 → among (types_in m) n ≡ bit_of m n
unfolding types_in
among_types m n l = among_within (bit_of m) 0 104 n (omega arith) l

pub bit_past : (m : List ℕ) (n : ℕ) → length m ≡ 13 → 104 ≤ n → bit_of m n ≡ false
unfolding bit_of flagged
bit_past m n s l = rw (get_or-eq_default m 0 {n = n / 8} (omega (arith, s))) (flag_none (n % 8))

-- Of 13 bytes, whatever the number.
pub among_any : (m : List ℕ) (n : ℕ) → length m ≡ 13 → among (types_in m) n ≡ bit_of m n
unfolding types_in
among_any m n s =
    cases (ltb n 104)
    (λ e. among_types m n (ltb-true n 104 e))
    (λ e. among_past (bit_of m) 0 104 n (ltb-false n 104 e) ∙ sym (bit_past m n s (ltb-false n 104 e)))

pub none_remembered : types_in (replicate 13 0) ≡ []
unfolding types_in numbers_from
none_remembered = refl

-- ---- no bit is on that is no type's

-- that it is so of a record's bytes, as facts
pub record Spared (m : List ℕ) : Type 0 where
  pub first : bit_of m 0 ≡ false
  pub behind : (n : ℕ) → 100 ≤ n → n < 104 → bit_of m n ≡ false

-- A number from 100 to 103.
four_past : {G : Type 0} (n : ℕ) → 100 ≤ n → n < 104 → (n ≡ 100 → G) → (n ≡ 101 → G) → (n ≡ 102 → G) → (n ≡ 103 → G) → G
four_past n l u a b c d =
    cases_eq n 100 a (λ e. cases_eq n 101 b (λ f. cases_eq n 102 c (λ g. d (omega (arith, e, f, g)))))

pub spared : (m : List ℕ) → spare_clear m ≡ true → Spared m
unfolding spare_clear
spared m e =
    let b0 = both (not (bit_of m 0)) _ e in
    let b1 = both (not (bit_of m 100)) _ b0.1 in
    let b2 = both (not (bit_of m 101)) _ b1.1 in
    let b3 = both (not (bit_of m 102)) _ b2.1 in
    let b4 = both (not (bit_of m 103)) _ b3.1 in
    record {
      first = not-true (bit_of m 0) b0.0;
      behind = λ n l u.
          four_past n l u
          (λ z. rw z (not-true (bit_of m 100) b1.0))
          (λ z. rw z (not-true (bit_of m 101) b2.0))
          (λ z. rw z (not-true (bit_of m 102) b3.0))
          (λ z. rw z (not-true (bit_of m 103) b4.0));
    }

pub spared_clear : (m : List ℕ) → Spared m → spare_clear m ≡ true
unfolding spare_clear
spared_clear m s =
    rw (
      s.first,
      s.behind 100 (omega arith) (omega arith),
      s.behind 101 (omega arith) (omega arith),
      s.behind 102 (omega arith) (omega arith),
      s.behind 103 (omega arith) (omega arith),
    )

-- The list is one of type numbers exactly if no bit is on that is no type's.
pub clear_types : (m : List ℕ) → spare_clear m ≡ true → types_in m ≡ types_which (bit_of m)
unfolding types_in
clear_types m e = let s = spared m e in which_only (bit_of m) s.first s.behind

pub types_clear : (m : List ℕ) → types_in m ≡ types_which (bit_of m) → spare_clear m ≡ true
types_clear m e =
    let out : (n : ℕ) → n < 104 → among (types_which (bit_of m)) n ≡ false → bit_of m n ≡ false
    = λ n l h. sym (among_types m n l) ∙ ap (λ k. among k n) e ∙ h in
    spared_clear m (record {
      first = out 0 (omega arith) (which_zero (bit_of m));
      behind = λ n l u. out n u (which_past (bit_of m) n l);
    })

-- The meaning's test of the list, of 13 bytes.
pub are_types_lem : (m : List ℕ) → length m ≡ 13 → are_types (types_in m) ≡ spare_clear m
are_types_lem m s =
    agree (are_types (types_in m)) (spare_clear m)
    (λ e. types_clear m (sym (types_which_lem (types_in m) e) ∙ which_same (among (types_in m)) (bit_of m) (λ n a b. among_any m n s)))
    (λ e. ap are_types (clear_types m e) ∙ which_types (bit_of m))

-- Then no bit is on from 100 on.
bit_spare : (m : List ℕ) (n : ℕ) → length m ≡ 13 → Spared m → 100 ≤ n → bit_of m n ≡ false
bit_spare m n s h l =
    cases (ltb n 104) (λ e. h.behind n l (ltb-true n 104 e)) (λ e. bit_past m n s (ltb-false n 104 e))

-- ---- types put in

-- Numbers below 104 are equal exactly if byte and bit are.
type_parts : (t n : ℕ) → t / 8 ≡ n / 8 → eqb (t % 8) (n % 8) ≡ eqb t n
type_parts t n e =
    cases_eq t n
    (λ s. rw s (eq-eqb (n % 8) (n % 8) refl ∙ sym (eq-eqb n n refl)))
    (λ s. rw (ne_eqb t n s) (ne_eqb (t % 8) (n % 8) (λ z. s (omega arith))))

bit_with : (m : List ℕ) (t n : ℕ) (on : Bool) → length m ≡ 13 → n < 104
    → bit_of (with_type m n on) t ≡ ((on && eqb t n) || bit_of m t)
unfolding with_type bit_of flagged
bit_with m t n false s l = refl
bit_with m t n true s l =
    let y = with_flag (n % 8) (get_or m (n / 8) 0) in
    cases_eq (t / 8) (n / 8)
    (λ e.
    rw (e, get_or-set_same m (n / 8) y 0 (omega (arith, s)), flag_with (t % 8) (n % 8) (get_or m (n / 8) 0), type_parts t n e))
    (λ e. rw (get_or-set_other m (n / 8) (t / 8) y 0 e, ne_eqb t n (λ z. e (ap (λ k. k / 8) z))))

length_types : (n : ℕ) (m : List ℕ) (on : ℕ → Bool) → length (with_types_to n m on) ≡ length m
unfolding with_types_to with_type
length_types zero m on = refl
length_types (suc n) m on =
    cases (on (suc n)) (λ e. rw (e, length-set) (length_types n m on)) (λ e. rw e (length_types n m on))

-- A number that none is put in of.
bit_apart : (m : List ℕ) (on : ℕ → Bool) (t n : ℕ) → length m ≡ 13 → n < 104 → ((k : ℕ) → 1 ≤ k → k ≤ n → t ≡ k → ⊥)
    → bit_of (with_types_to n m on) t ≡ bit_of m t
unfolding with_types_to
bit_apart m on t zero s l d = refl
bit_apart m on t (suc n) s l d =
    bit_with (with_types_to n m on) t (suc n) (on (suc n)) (length_types n m on ∙ s) l
    ∙ rw (ne_eqb t (suc n) (d (suc n) (omega arith) (omega arith)), and-false)
    (bit_apart m on t n s (omega arith) (λ k a b. d k a (omega arith)))

or_swapped : (a b : Bool) → ((a && true) || b) ≡ (b || a)
or_swapped true b = sym (or-true b)
or_swapped false true = refl
or_swapped false false = refl

bit_put : (m : List ℕ) (on : ℕ → Bool) (t n : ℕ) → length m ≡ 13 → n < 104 → 1 ≤ t → t ≤ n
    → bit_of (with_types_to n m on) t ≡ (bit_of m t || on t)
unfolding with_types_to
bit_put m on t zero s l a b = absurd (omega arith)
bit_put m on t (suc n) s l a b =
    bit_with (with_types_to n m on) t (suc n) (on (suc n)) (length_types n m on ∙ s) l
    ∙ cases_eq t (suc n)
    (λ e.
    rw (e, eq-eqb (suc n) (suc n) refl, bit_apart m on (suc n) n s (omega arith) (λ k a b z. omega arith))
    (or_swapped (on (suc n)) (bit_of m (suc n))))
    (λ e. rw (ne_eqb t (suc n) e, and-false) (bit_put m on t n s (omega arith) a (omega (arith, e))))

-- Type numbers: those that pass are put in, and what was there stays.
pub bits_put : (m : List ℕ) (on : ℕ → Bool) (t : ℕ) → length m ≡ 13 → 1 ≤ t → t ≤ 99
    → bit_of (with_types m on) t ≡ (bit_of m t || on t)
unfolding with_types
bits_put m on t s a b = bit_put m on t 99 s (omega arith) a b

-- No bit is put in that is no type's.
pub spared_put : (m : List ℕ) (on : ℕ → Bool) → length m ≡ 13 → Spared m → Spared (with_types m on)
unfolding with_types
spared_put m on s h = record {
  first = bit_apart m on 0 99 s (omega arith) (λ k a b e. omega arith) ∙ h.first;
  behind = λ n l u. bit_apart m on n 99 s (omega arith) (λ k a b e. omega arith) ∙ h.behind n l u;
}

pub clear_put : (m : List ℕ) (on : ℕ → Bool) → length m ≡ 13 → spare_clear m ≡ true → spare_clear (with_types m on) ≡ true
clear_put m on s e = spared_clear (with_types m on) (spared_put m on s (spared m e))

-- What the bytes say with more put in: the types that they said, and those that pass.
pub types_put : (m : List ℕ) (on : ℕ → Bool) → length m ≡ 13 → spare_clear m ≡ true
    → types_in (with_types m on) ≡ types_which (λ n. among (types_in m) n || on n)
types_put m on s e =
    clear_types (with_types m on) (clear_put m on s e)
    ∙ which_same (bit_of (with_types m on)) (λ n. among (types_in m) n || on n)
    (λ n a b. bits_put m on n s a b ∙ ap (λ x. x || on n) (sym (among_any m n s)))

-- ---- marks of what is remembered

-- They tell, of every number, whether it is among them.
pub marks_among : (m : List ℕ) (n : ℕ) → length m ≡ 13 → spare_clear m ≡ true → type_bits m n ≡ among (types_in m) n
unfolding type_bits
marks_among m n s e =
    cases (ltb n 100)
    (λ f. rw f (sym (among_any m n s)))
    (λ f. rw f (sym (among_any m n s ∙ bit_spare m n s (spared m e) (ltb-false n 100 f))))

-- ---- bytes stay bytes

-- each entry is a byte
abbrev pub Bytes : List ℕ → Type 0
Bytes m = (k : ℕ) → get_or m k 0 < 256

type_bytes : (m : List ℕ) (n : ℕ) (on : Bool) → length m ≡ 13 → n < 104 → Bytes m → Bytes (with_type m n on)
unfolding with_type
type_bytes m n false s l h k = h k
type_bytes m n true s l h k =
    let y = with_flag (n % 8) (get_or m (n / 8) 0) in
    cases_eq k (n / 8)
    (λ e. rw (e, get_or-set_same m (n / 8) y 0 (omega (arith, s))) (with_byte (n % 8) (get_or m (n / 8) 0) (omega arith) (h (n / 8))))
    (λ e. rw (get_or-set_other m (n / 8) k y 0 e) (h k))

types_bytes : (n : ℕ) (m : List ℕ) (on : ℕ → Bool) → length m ≡ 13 → n < 104 → Bytes m → Bytes (with_types_to n m on)
unfolding with_types_to
types_bytes zero m on s l h = h
types_bytes (suc n) m on s l h =
    type_bytes (with_types_to n m on) (suc n) (on (suc n)) (length_types n m on ∙ s) l
    (types_bytes n m on s (omega arith) h)

pub bytes_put : (m : List ℕ) (on : ℕ → Bool) → length m ≡ 13 → Bytes m → Bytes (with_types m on)
unfolding with_types
bytes_put m on s h = types_bytes 99 m on s (omega arith) h

pub length_put : (m : List ℕ) (on : ℕ → Bool) → length (with_types m on) ≡ length m
unfolding with_types
length_put m on = length_types 99 m on
