-- What the functions on the 13 bytes have to show.
use Prim.Native.Nat.{ℕ, zero, suc, ◌+◌, ◌-◌, ◌/◌, ◌%◌, ◌≤◌, ◌<◌}
use mathlib.Core.Path.{◌≡◌, refl, ap, sym, ◌∙◌, fun_ext}
use mathlib.Core.Bool.{Bool, true, false, not, cond, ◌&&◌, and-true}
use mathlib.Core.List.{List}
use native.Mathlib.Omega.{arith}
use lib.Dec.{eqb, ltb}
use lib.ListN.{length, get_or, set, length-set, get_or-eq_default}
use lib.Seq.{get_or-set_same, get_or-set_other}
use borrow.Author.Tests.{ltb-true, ltb-false, lt-ltb, le-ltb}
use Rattle.tables.specs.Keyed.{marked, Blank}
use Rattle.tables.proofs.Counts.{cases, cases_eq}
use Rattle.marks.specs.Flags.{with_flag}
use Rattle.memory.specs.Remembered.{bit_of, all_off, spare_clear, type_bits, with_type, with_types_to, with_types, MarksTo}

-- ---- the spare bits

pub spare_by : (m : List ℕ) (a b d e f : Bool) → f ≡ bit_of m 103 → e ≡ bit_of m 102 → d ≡ bit_of m 101
    → b ≡ bit_of m 100 → a ≡ bit_of m 0
    → ((((not a && not b) && not d) && not e) && not f) ≡ spare_clear m
unfolding spare_clear all_off
spare_by m a b d e f ef ee ed eb ea = rw (ef, ee, ed, eb, ea)
    (five_and (not (bit_of m 0)) (not (bit_of m 100)) (not (bit_of m 101)) (not (bit_of m 102)) (not (bit_of m 103)))
  where
    five_and : (a b d e f : Bool) → ((((a && b) && d) && e) && f) ≡ (a && (b && (d && (e && (f && true)))))
    five_and false b d e f = refl
    five_and true false d e f = refl
    five_and true true false e f = refl
    five_and true true true false f = refl
    five_and true true true true f = sym (and-true f)

-- ---- one number after the other

pub types_none : (m marks : List ℕ) → m ≡ with_types_to 0 m (marked marks)
unfolding with_types_to
types_none m marks = refl

pub long_cond : (on : Bool) (r : List ℕ) (i v : ℕ) → length (cond on (set r i v) r) ≡ length r
long_cond true r i v = length-set r i v
long_cond false r i v = refl

-- With the bit of the number n, before which those of 1 to n - 1 were put in.
pub types_more : (m marks r r' : List ℕ) (n k : ℕ) (on : Bool)
    → r' ≡ cond on (set r (k / 8) (with_flag (k % 8) (get_or r (k / 8) 0))) r → on ≡ marked marks k → k ≡ n
    → r ≡ with_types_to (n - 1) m (marked marks) → 1 ≤ n → r' ≡ with_types_to (n + 1 - 1) m (marked marks)
unfolding with_type with_types_to
types_more m marks r r' zero k on er eo ek e l = absurd (omega arith)
types_more m marks r r' (suc n) k on er eo ek e l =
    let i : suc n + 1 - 1 ≡ suc n = omega arith in
    let j : suc n - 1 ≡ n = omega arith in
    rw i (er ∙ rw (eo, ek, rw j at e))

pub types_end : (m marks r : List ℕ) (n : ℕ) → r ≡ with_types_to (n - 1) m (marked marks) → n ≡ 100
    → r ≡ with_types m (marked marks)
unfolding with_types
types_end m marks r n e s = rw s at e

pub marks_none : (m marks : List ℕ) → Blank 100 marks → MarksTo m marks 0
marks_none m marks h = record {
  long = h.long;
  each = λ k.
      rw (le-ltb k 0 (omega arith))
      (ap (λ x. eqb x 1)
      (cases (ltb k 100)
      (λ e. h.each k (ltb-true k 100 e))
      (λ e. get_or-eq_default marks 0 (omega (arith, h.long, ltb-false k 100 e)))));
}

ltb_other : (k n : ℕ) → (k ≡ n → ⊥) → ltb k n ≡ ltb k (n + 1)
ltb_other k n d =
    cases (ltb k n)
    (λ e. rw (e, lt-ltb k (n + 1) (omega (arith, ltb-true k n e))))
    (λ e. rw (e, le-ltb k (n + 1) (omega (arith, ltb-false k n e, d))))

pub marks_more : (m marks marks' : List ℕ) (n k : ℕ) (q : Bool) → MarksTo m marks n → marks' ≡ cond q (set marks k 1) marks
    → k ≡ n → q ≡ bit_of m n → n < 100 → MarksTo m marks' (n + 1)
marks_more m marks marks' n k true h es ek eq l = record {
  long = rw (es, length-set) h.long;
  each = λ j.
      cases_eq j n
      (λ s. rw (es, ek, s, lt-ltb n (n + 1) (omega arith), get_or-set_same marks n 1 0 (omega (arith, h.long))) eq)
      (λ s.
      rw (es, ek, get_or-set_other marks n j 1 0 s, h.each j)
      (ap (λ t. t && bit_of m j) (ltb_other j n s)));
}
marks_more m marks marks' n k false h es ek eq l = record {
  long = rw es h.long;
  each = λ j.
      cases_eq j n
      (λ s. rw (es, s, lt-ltb n (n + 1) (omega arith)) (h.each n ∙ rw (le-ltb n n (omega arith)) eq))
      (λ s. rw es (h.each j ∙ ap (λ t. t && bit_of m j) (ltb_other j n s)));
}

pub marks_end : (m marks : List ℕ) (n : ℕ) → MarksTo m marks n → n ≤ 100 → 100 ≤ n → marked marks ≡ type_bits m
unfolding type_bits
marks_end m marks n h l g = let s : n ≡ 100 = omega arith in fun_ext (λ k. rw s at (h.each k))
