-- The criteria that a row fills: criteria are the row's exactly if each criterion belongs to them whose value is
-- filled, and then as many belong to them as values are filled.
use Prim.Native.Nat.{ℕ, zero, suc, ◌+◌, ◌*◌, ◌/◌, ◌%◌, ◌^◌, ◌≤◌, ◌<◌}
use mathlib.Core.Path.{◌≡◌, refl, sym, ◌∙◌, ap}
use mathlib.Core.Bool.{Bool, false, ◌&&◌}
use mathlib.Core.List.{List, [], ◌∷◌}
use native.Mathlib.Nat.{pow-succ', div-eq_of_lt, lt_of_lt_of_le}
use native.Mathlib.Omega.{arith}
use lib.Dec.{eqb, ltb}
use lib.ListN.{length, get_or}
use lib.Bits.{bit_and, and_mask}
use lib.Pow.{shr-shr, pow_mono}
use Rattle.std.proofs.lemmas.Bool.{le-ltb}
use lib.Count.{ones, ones_step}
use borrow.Author.Tests.{lt-ltb, ltb-true, eq-eqb, ne_eqb, eqb-true}
use Rattle.tables.specs.Count.{bit, count, all_below}
use Rattle.tables.proofs.Counts.{cases_eq, both, agree, all_at, all_put, bit_most}
use Rattle.meaning.specs.Keys.{filled}
use Rattle.records.specs.Criteria.{belongs, agrees, filled_count}

filled_cons : (x : ℕ) (v : List ℕ) → filled (x ∷ v) ≡ bit (ltb 0 x) + 2 * filled v
filled_cons zero v = omega arith
filled_cons (suc x) v = omega (arith, ap bit (lt-ltb 0 (suc x) (omega arith)))

-- the lowest criterion is the remainder by 2, and the others are those of the half
odd : (n : ℕ) → bit (eqb (n % 2) 1) ≡ n % 2
odd n = cases_eq (n % 2) 1 (λ e. rw e) (λ e. rw (ne_eqb (n % 2) 1 e) (omega arith))

lowest : (n : ℕ) → bit (belongs n 0) ≡ n % 2
unfolding belongs
lowest n = let e : n / 2 ^ 0 ≡ n = omega arith in rw e (odd n)

higher : (n i : ℕ) → belongs n (suc i) ≡ belongs (n / 2) i
unfolding belongs
higher n i = let e : suc i ≡ 1 + i = omega arith in rw (e, ← shr-shr n 1 i)

filled_half : (x : ℕ) (v : List ℕ) → filled (x ∷ v) / 2 ≡ filled v
filled_half x v = omega (arith, filled_cons x v, bit_most (ltb 0 x))

filled_low : (x : ℕ) (v : List ℕ) → filled (x ∷ v) % 2 ≡ bit (ltb 0 x)
filled_low x v = omega (arith, filled_cons x v, bit_most (ltb 0 x))

-- criterion i belongs to a row's criteria exactly if value i is filled
filled_at : (v : List ℕ) (i : ℕ) → i < length v → bit (belongs (filled v) i) ≡ bit (ltb 0 (get_or v i 0))
filled_at [] i l = absurd (omega arith)
filled_at (x ∷ v) zero l = lowest (filled (x ∷ v)) ∙ filled_low x v
filled_at (x ∷ v) (suc i) l =
    ap bit (higher (filled (x ∷ v)) i ∙ ap (λ n. belongs n i) (filled_half x v)) ∙ filled_at v i (omega arith)

filled_below : (v : List ℕ) → filled v < 2 ^ length v
filled_below [] = omega arith
filled_below (x ∷ v) = omega (arith, filled_cons x v, bit_most (ltb 0 x), filled_below v, pow-succ' 2 (length v))

only_filled : (v : List ℕ) (c : ℕ) → ((i : ℕ) → i < length v → bit (belongs c i) ≡ bit (ltb 0 (get_or v i 0)))
    → c < 2 ^ length v → c ≡ filled v
only_filled [] c h l = omega arith
only_filled (x ∷ v) c h l =
    let e = only_filled v (c / 2) (λ i u. ap bit (sym (higher c i)) ∙ h (suc i) (omega arith)) (omega (arith, pow-succ' 2 (length v))) in
    omega (arith, e, lowest c, h 0 (omega arith), filled_cons x v)

-- as many belong to a row's criteria as values are filled
ones_filled : (v : List ℕ) → ones (filled v) ≡ filled_count v
unfolding filled_count count ones
ones_filled [] = refl
ones_filled (x ∷ v) = omega (arith, ones_step (filled (x ∷ v)), filled_low x v, ap ones (filled_half x v), ones_filled v)

-- ---- what the code finds

pub belongs_shift : (c i : ℕ) → bit_and (c / 2 ^ i) 1 ≡ c / 2 ^ i % 2
belongs_shift c i = and_mask (c / 2 ^ i) 1

pub belongs_none : (c i : ℕ) → c < 2 ^ 32 → 32 ≤ i → ltb i 32 ≡ belongs c i
unfolding belongs
belongs_none c i h l = let e : c / 2 ^ i ≡ 0 = div-eq_of_lt (lt_of_lt_of_le h (pow_mono l)) in rw (e, le-ltb i 32 l)

pub fills_none : (c n : ℕ) (v : List ℕ) → n ≡ filled_count v → (ones c ≡ n → ⊥) → false ≡ eqb c (filled v)
fills_none c n v e h = sym (ne_eqb c (filled v) (λ z. h (ap ones z ∙ ones_filled v ∙ sym e)))

pub fills_all : (c : ℕ) (v : List ℕ) (a r : Bool) → length v ≡ 10 → a ≡ all_below (agrees c v) 10 → r ≡ (ltb c 1024 && a)
    → r ≡ eqb c (filled v)
unfolding agrees
fills_all c v a r len e f =
    rw (f, e)
    (agree (ltb c 1024 && all_below (agrees c v) 10) (eqb c (filled v))
    (λ t.
    let b = both (ltb c 1024) (all_below (agrees c v) 10) t in
    eq-eqb c (filled v)
    (only_filled v c (λ i l. eqb-true _ _ (all_at (agrees c v) 10 b.1 i (omega arith))) (rw len (ltb-true c 1024 b.0))))
    (λ t.
    let z : c ≡ filled v = eqb-true c (filled v) t in
    rw (
      z,
      lt-ltb (filled v) 1024 (rw len at (filled_below v)),
      all_put (agrees (filled v) v) 10 (λ i l. eq-eqb _ _ (filled_at v i (omega arith))),
    )))
