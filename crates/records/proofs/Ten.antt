-- What the code's passes over the ten values of a row and over the ten criteria find.
use Rattle.std.proofs.Common.{ℕ, zero, suc, ◌+◌, ◌≡◌, refl, sym, ◌∙◌, ap, arith, Bool, true, false, ◌&&◌, List, [], ◌∷◌, length, get_or, eqb, ltb}
use Rattle.std.specs.List.{filter, list_all, range_with_len}
use Rattle.tables.specs.Count.{bit, count, all_below}
use Rattle.tables.proofs.Counts.{cases, all_more}
use mathlib.Core.Bool.{beq}
use Rattle.records.specs.Criteria.{belongs, agrees, filled_count}

-- ---- the values

counted : (p : ℕ → Bool) (v : List ℕ) → length (filter p v) ≡ count p v
unfolding count
counted p [] = refl
counted p (x ∷ v) =
    cases (p x) (λ t. rw t (omega (arith, counted p v))) (λ t. rw t (omega (arith, counted p v)))

pub filled_by : (v : List ℕ) (n : ℕ) → n ≡ length (filter (λ x. ltb 0 x) v) → n ≡ filled_count v
unfolding filled_count
filled_by v n e = e ∙ counted (λ x. ltb 0 x) v

-- ---- the criteria

and_assoc : (a b c : Bool) → ((a && b) && c) ≡ (a && (b && c))
and_assoc true b c = refl
and_assoc false b c = refl

and_true : (a : Bool) → (a && true) ≡ a
and_true true = refl
and_true false = refl

all_from : (p : ℕ → Bool) (n i : ℕ) → (all_below p i && list_all p (range_with_len i n)) ≡ all_below p (i + n)
all_from p zero i = let e : i + 0 ≡ i = omega arith in rw e (and_true (all_below p i))
all_from p (suc n) i =
    let e : i + suc n ≡ i + 1 + n = omega arith in
    rw e
    (sym (and_assoc (all_below p i) (p i) (list_all p (range_with_len (i + 1) n)))
    ∙ ap (λ t. t && list_all p (range_with_len (i + 1) n)) (sym (all_more p i))
    ∙ all_from p n (i + 1))

-- each of the ten from 0 on
pub all_ten : (p : ℕ → Bool) (r : Bool) → r ≡ list_all p (range_with_len 0 10) → r ≡ all_below p 10
unfolding all_below
all_ten p r e = e ∙ all_from p 10 0

same_bit : (a b : Bool) → beq a b ≡ eqb (bit a) (bit b)
same_bit true true = refl
same_bit true false = refl
same_bit false true = refl
same_bit false false = refl

-- two truths are the same exactly if their numbers are
pub agreeing : (c : ℕ) (v : List ℕ) (i : ℕ) (t r : Bool) → t ≡ belongs c i → r ≡ beq t (ltb 0 (get_or v i 0))
    → r ≡ agrees c v i
unfolding agrees
agreeing c v i t r e f = rw (f, e) (same_bit (belongs c i) (ltb 0 (get_or v i 0)))
