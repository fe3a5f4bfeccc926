-- Laws of lists of numbers that pass a test, each once, rising: which numbers are among them, and when two are equal.
use Prim.Native.Nat.{ℕ, zero, suc, ◌+◌, ◌≤◌, ◌<◌}
use mathlib.Core.Path.{◌≡◌, refl, ◌∙◌}
use mathlib.Core.Bool.{Bool, false, cond, ◌||◌}
use mathlib.Core.List.{List, [], ◌∷◌, ◌++◌, append-nil}
use native.Mathlib.Omega.{arith}
use lib.Dec.{eqb}
use borrow.Author.Tests.{eq-eqb, ne_eqb}
use Rattle.tables.specs.Count.{has, keep}
use Rattle.tables.proofs.Counts.{cases, cases_eq}
use Rattle.tables.proofs.Lists.{has_cons}
use Rattle.meaning.specs.Pending.{numbers_from, type_numbers, types_which, among}

-- ---- any list

among_cons : (m n : ℕ) (l : List ℕ) → among (m ∷ l) n ≡ (eqb m n || among l n)
unfolding among
among_cons m n l = has_cons (λ k. eqb k n) m l

-- One number more, if it passes the test: where it is another one, or does not pass, nothing changes.
among_other : (p : ℕ → Bool) (m n : ℕ) (l : List ℕ) → (m ≡ n → ⊥)
    → among (cond (p m) (m ∷ l) l) n ≡ among l n
among_other p m n l d = cases (p m) (λ e. rw (e, among_cons m n l, ne_eqb m n d)) (λ e. rw e)

among_this : (p : ℕ → Bool) (n : ℕ) (l : List ℕ) → among l n ≡ false → among (cond (p n) (n ∷ l) l) n ≡ p n
among_this p n l h = cases (p n) (λ e. rw (e, among_cons n n l, eq-eqb n n refl)) (λ e. rw (e, h))

keep_append : (p : ℕ → Bool) (l m : List ℕ) → keep p (l ++ m) ≡ keep p l ++ keep p m
unfolding keep numbers_from
keep_append p [] m = refl
keep_append p (x ∷ l) m = cases (p x) (λ e. rw (e, keep_append p l m)) (λ e. rw (e, keep_append p l m))

keep_middle : (p : ℕ → Bool) (l m n : List ℕ) → keep p l ≡ [] → keep p n ≡ [] → keep p (l ++ (m ++ n)) ≡ keep p m
keep_middle p l m n e f = rw (keep_append p l (m ++ n), e, keep_append p m n, f, append-nil)

-- ---- k numbers, from a on

module _ (p : ℕ → Bool) where
  pub among_below : (a k n : ℕ) → n < a → among (keep p (numbers_from a k)) n ≡ false
  unfolding keep among has numbers_from
  among_below a zero n l = refl
  among_below a (suc k) n l =
      among_other p a n (keep p (numbers_from (suc a) k)) (λ e. omega arith) ∙ among_below (suc a) k n (omega arith)

  pub among_past : (a k n : ℕ) → a + k ≤ n → among (keep p (numbers_from a k)) n ≡ false
  unfolding keep among has numbers_from
  among_past a zero n l = refl
  among_past a (suc k) n l =
      among_other p a n (keep p (numbers_from (suc a) k)) (λ e. omega arith) ∙ among_past (suc a) k n (omega arith)

  pub among_within : (a k n : ℕ) → a ≤ n → n < a + k → among (keep p (numbers_from a k)) n ≡ p n
  unfolding keep numbers_from
  among_within a zero n l h = absurd (omega arith)
  among_within a (suc k) n l h =
      cases_eq a n
      (λ e. rw e (among_this p n (keep p (numbers_from (suc n) k)) (among_below (suc n) k n (omega arith))))
      (λ d. among_other p a n (keep p (numbers_from (suc a) k)) d ∙ among_within (suc a) k n (omega (arith, d)) (omega arith))

pub keep_same : (p q : ℕ → Bool) (a k : ℕ) → ((n : ℕ) → a ≤ n → n < a + k → p n ≡ q n)
    → keep p (numbers_from a k) ≡ keep q (numbers_from a k)
unfolding keep numbers_from
keep_same p q a zero h = refl
keep_same p q a (suc k) h =
    rw (h a (omega arith) (omega arith), keep_same p q (suc a) k (λ n l u. h n (omega arith) (omega arith)))

keep_none : (p : ℕ → Bool) (a k : ℕ) → ((n : ℕ) → a ≤ n → n < a + k → p n ≡ false) → keep p (numbers_from a k) ≡ []
unfolding keep numbers_from
keep_none p a zero h = refl
keep_none p a (suc k) h =
    rw (h a (omega arith) (omega arith)) (keep_none p (suc a) k (λ n l u. h n (omega arith) (omega arith)))

-- ---- the numbers that a type may have

-- Of the numbers below 104 that pass a test, where no other number passes it.
pub which_only : (p : ℕ → Bool) → p 0 ≡ false → ((n : ℕ) → 100 ≤ n → n < 104 → p n ≡ false)
    → keep p (numbers_from 0 104) ≡ types_which p
unfolding types_which type_numbers numbers_from
which_only p z h =
    keep_middle p (numbers_from 0 1) (numbers_from 1 99) (numbers_from 100 4)
    (keep_none p 0 1 (λ n l u. let e : n ≡ 0 = omega arith in rw e z))
    (keep_none p 100 4 h)

pub which_zero : (p : ℕ → Bool) → among (types_which p) 0 ≡ false
unfolding types_which type_numbers numbers_from
which_zero p = among_below p 1 99 0 (omega arith)

pub which_past : (p : ℕ → Bool) (n : ℕ) → 100 ≤ n → among (types_which p) n ≡ false
unfolding types_which type_numbers numbers_from
which_past p n l = among_past p 1 99 n l

pub which_same : (p q : ℕ → Bool) → ((n : ℕ) → 1 ≤ n → n ≤ 99 → p n ≡ q n) → types_which p ≡ types_which q
unfolding types_which type_numbers numbers_from
which_same p q h = keep_same p q 1 99 (λ n l u. h n l (omega arith))
