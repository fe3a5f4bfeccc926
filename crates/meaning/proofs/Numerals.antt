-- A number's decimal digits, one at a time: of a number below 10 the digit, of any other its tenth's digits and the
-- last one.
use Rattle.std.proofs.Common.{ℕ, zero, suc, ◌+◌, ◌/◌, ◌%◌, ◌≤◌, ◌<◌, ◌≡◌, refl, ap, sym, [], ◌∷◌, ◌++◌, arith}
use Rattle.meaning.specs.Text.{digits_to, numeral}

no_digits : (k : ℕ) → digits_to k 0 ≡ []
no_digits zero = refl
no_digits (suc k) = refl

-- the bound of a number's digits changes nothing
digits_bound : (k m n : ℕ) → n ≤ k → n ≤ m → digits_to k n ≡ digits_to m n
digits_bound zero m zero h j = sym (no_digits m)
digits_bound zero m (suc n) h j = absurd (omega arith)
digits_bound (suc k) m zero h j = sym (no_digits m)
digits_bound (suc k) zero (suc n) h j = absurd (omega arith)
digits_bound (suc k) (suc m) (suc n) h j =
    ap (λ l. l ++ ((48 + suc n % 10) ∷ [])) (digits_bound k m (suc n / 10) (omega arith) (omega arith))

digits_numeral : (n : ℕ) → 1 ≤ n → digits_to n n ≡ numeral n
unfolding numeral
digits_numeral zero h = absurd (omega arith)
digits_numeral (suc n) h =
    ap (λ l. l ++ ((48 + suc n % 10) ∷ [])) (digits_bound n (suc n / 10) (suc n / 10) (omega arith) (omega arith))

pub numeral_one : (n : ℕ) → n < 10 → numeral n ≡ (48 + n) ∷ []
unfolding numeral
numeral_one n h =
    let a : n / 10 ≡ 0 = omega arith in
    let b : n % 10 ≡ n = omega arith in
    rw (a, b)

pub numeral_more : (n : ℕ) → 10 ≤ n → numeral n ≡ numeral (n / 10) ++ ((48 + n % 10) ∷ [])
unfolding numeral
numeral_more n h = ap (λ l. l ++ ((48 + n % 10) ∷ [])) (digits_numeral (n / 10) (omega arith))
