-- Two lists of numbers are the same exactly if they are equal.
use Rattle.std.proofs.Common.{ℕ, ◌≡◌, refl, ap₂, true, List, [], ◌∷◌, eqb, eqb-true, eq-eqb}
use mathlib.Core.Bool.{false≢true}
use Rattle.tables.proofs.Counts.{both}
use Rattle.meaning.specs.Text.{same}

pub same_self : (xs : List ℕ) → same xs xs ≡ true
same_self [] = refl
same_self (x ∷ xs) = rw (eq-eqb x x refl, same_self xs)

pub same_numbers : (xs ys : List ℕ) → same xs ys ≡ true → xs ≡ ys
same_numbers [] [] e = refl
same_numbers [] (y ∷ ys) e = absurd (false≢true e)
same_numbers (x ∷ xs) [] e = absurd (false≢true e)
same_numbers (x ∷ xs) (y ∷ ys) e =
    let b = both (eqb x y) (same xs ys) e in
    ap₂ ◌∷◌ (eqb-true x y b.0) (same_numbers xs ys b.1)

pub same_back : (xs ys : List ℕ) → same xs ys ≡ true → same ys xs ≡ true
same_back xs ys e = rw (same_numbers xs ys e) (same_self ys)
