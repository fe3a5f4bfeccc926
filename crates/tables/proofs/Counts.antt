-- Laws of counts. Each is an induction with one step of omega; the rest of the proofs only apply them.
use Prim.Native.Nat.{ℕ, zero, suc, ◌+◌, ◌≤◌, ◌<◌}
use mathlib.Core.Path.{◌≡◌, refl, ap, sym, ◌∙◌}
use mathlib.Core.Bool.{Bool, true, false, ◌&&◌, ◌||◌, not, cond, false≢true}
use mathlib.Core.List.{List, [], ◌∷◌}
use native.Mathlib.Nat.{add-zero}
use native.Mathlib.Numerals.{add-one}
use native.Mathlib.Omega.{arith}
use lib.Dec.{eqb}
use lib.ListN.{length}
use borrow.Author.Tests.{eqb-true, eqb-false, ne_eqb}
use Rattle.tables.specs.Count.{bit, count_below, all_below, find_below, count, every, keep, alter}

pub bit_none : (t : Bool) → bit t ≡ 0 → t ≡ false
bit_none true h = absurd (omega arith)
bit_none false h = refl

pub bit_most : (t : Bool) → bit t ≤ 1
bit_most true = omega arith
bit_most false = omega arith

pub bit_not : (t : Bool) → bit t + bit (not t) ≡ 1
bit_not true = refl
bit_not false = refl

pub bit_or : (s t : Bool) → bit (s || t) ≤ bit s + bit t
bit_or true t = omega arith
bit_or false t = omega arith

-- Cases, handed on as functions: a proof by cases is one term, with the fact of each case in scope.
pub cases : {P : Type 0} (t : Bool) → (t ≡ true → P) → (t ≡ false → P) → P
cases true y n = y refl
cases false y n = n refl

pub cases_eq : {P : Type 0} (a b : ℕ) → (a ≡ b → P) → ((a ≡ b → ⊥) → P) → P
cases_eq a b y n = cases (eqb a b) (λ e. y (eqb-true a b e)) (λ e. n (eqb-false a b e))

pub both : (a b : Bool) → (a && b) ≡ true → (a ≡ true) × (b ≡ true)
both true b e = (refl, e)
both false b e = absurd (false≢true e)

-- A conjunct of a test that holds: `search ands`, under the test's `unfolding`.
pub and_l : (a b : Bool) → (a && b) ≡ true → a ≡ true
and_l a b e = (both a b e).0

pub and_r : (a b : Bool) → (a && b) ≡ true → b ≡ true
and_r a b e = (both a b e).1

pub neither : (a b : Bool) → (a || b) ≡ false → (a ≡ false) × (b ≡ false)
neither true b e = absurd (false≢true (sym e))
neither false b e = (refl, e)

-- Two tests that follow from each other are equal.
pub agree : (a b : Bool) → (a ≡ true → b ≡ true) → (b ≡ true → a ≡ true) → a ≡ b
agree true b f g = sym (f refl)
agree false true f g = absurd (false≢true (g refl))
agree false false f g = refl

pub ruleset ands = (and_l, and_r)

-- Places.

pub count_none : (p : ℕ → Bool) → count_below p 0 ≡ 0
unfolding count_below
count_none p = refl

pub count_more : (p : ℕ → Bool) (n : ℕ) → count_below p (n + 1) ≡ count_below p n + bit (p n)
unfolding count_below
count_more p n = rw add-one

pub all_none : (p : ℕ → Bool) → all_below p 0 ≡ true
unfolding all_below
all_none p = refl

pub all_more : (p : ℕ → Bool) (n : ℕ) → all_below p (n + 1) ≡ (all_below p n && p n)
unfolding all_below
all_more p n = rw add-one

pub find_none : (d : ℕ) (p : ℕ → Bool) → find_below d p 0 ≡ d
unfolding find_below
find_none d p = refl

pub find_more : (d : ℕ) (p : ℕ → Bool) (n : ℕ) → find_below d p (n + 1) ≡ cond (p n) n (find_below d p n)
unfolding find_below
find_more d p n = rw add-one

pub count_most : (p : ℕ → Bool) (n : ℕ) → count_below p n ≤ n
unfolding count_below
count_most p zero = omega arith
count_most p (suc n) = omega (arith, count_most p n, bit_most (p n))

pub count_same : (f g : ℕ → Bool) (n : ℕ) → ((k : ℕ) → k < n → f k ≡ g k) → count_below f n ≡ count_below g n
unfolding count_below
count_same f g zero h = refl
count_same f g (suc n) h =
    omega (arith, count_same f g n (λ k l. h k (omega arith)), ap bit (h n (omega arith)))

-- Two tests that agree but at one place.
pub count_moved : (f g : ℕ → Bool) (i n : ℕ) → i < n → ((k : ℕ) → k < n → (k ≡ i → ⊥) → g k ≡ f k)
    → count_below g n + bit (f i) ≡ count_below f n + bit (g i)
unfolding count_below
count_moved f g i zero l h = absurd (omega arith)
count_moved f g i (suc n) l h =
    cases_eq i n
    (λ s.
    omega
    (arith, count_same g f n (λ k b. h k (omega arith) (λ z. omega arith)), ap (λ x. bit (f x)) s, ap (λ x. bit (g x)) s))
    (λ s.
    omega
    (arith, count_moved f g i n (omega arith) (λ k b. h k (omega arith)), ap bit (h n (omega arith) (λ z. s (sym z)))))

pub count_not : (f : ℕ → Bool) (n : ℕ) → count_below f n + count_below (λ k. not (f k)) n ≡ n
unfolding count_below
count_not f zero = refl
count_not f (suc n) = omega (arith, count_not f n, bit_not (f n))

pub count_some : (p : ℕ → Bool) (n k : ℕ) → k < n → p k ≡ true → 1 ≤ count_below p n
unfolding count_below
count_some p zero k l e = absurd (omega arith)
count_some p (suc n) k l e =
    cases_eq k n
    (λ s. omega (arith, ap bit e, ap (λ x. bit (p x)) s))
    (λ s. omega (arith, count_some p n k (omega arith) e))

-- Where p holds at one place at most, two such places are one.
pub count_only : (p : ℕ → Bool) (n : ℕ) → count_below p n ≤ 1 → (i j : ℕ) → i < n → j < n → p i ≡ true → p j ≡ true
    → i ≡ j
unfolding count_below
count_only p zero h i j a b e f = absurd (omega arith)
count_only p (suc n) h i j a b e f =
    cases_eq i n
    (λ s. cases_eq j n (λ t. s ∙ sym t) (λ t. absurd (omega (arith, count_some p n j (omega arith) f, ap bit (ap p (sym s) ∙ e)))))
    (λ s.
    cases_eq j n (λ t. absurd (omega (arith, count_some p n i (omega arith) e, ap bit (ap p (sym t) ∙ f))))
    (λ t. count_only p n (omega arith) i j (omega arith) (omega arith) e f))

-- Where p holds at some place, the place found is one.
pub find_some : (d : ℕ) (p : ℕ → Bool) (n : ℕ) → 1 ≤ count_below p n
    → (find_below d p n < n) × (p (find_below d p n) ≡ true)
unfolding count_below find_below
find_some d p zero h = absurd (omega arith)
find_some d p (suc n) h =
    cases (p n)
    (λ e. rw e (omega arith, e))
    (λ e. let r = find_some d p n (omega (arith, ap bit e)) in rw e (omega (arith, r.0), r.1))

pub all_at : (p : ℕ → Bool) (n : ℕ) → all_below p n ≡ true → (k : ℕ) → k < n → p k ≡ true
unfolding all_below
all_at p zero e k l = absurd (omega arith)
all_at p (suc n) e k l =
    let b = both (all_below p n) (p n) e in
    cases_eq k n (λ s. rw s b.1) (λ s. all_at p n b.0 k (omega arith))

pub all_put : (p : ℕ → Bool) (n : ℕ) → ((k : ℕ) → k < n → p k ≡ true) → all_below p n ≡ true
unfolding all_below
all_put p zero h = refl
all_put p (suc n) h = rw (all_put p n (λ k l. h k (omega arith)), h n (omega arith))

-- Lists.
module _ {R : Type 0} where
  pub count_cons : (p : R → Bool) (x : R) (l : List R) → count p (x ∷ l) ≡ count p l + bit (p x)
  unfolding count
  count_cons p x l = refl

  pub count_ext : (p q : R → Bool) (l : List R) → ((x : R) → p x ≡ q x) → count p l ≡ count q l
  unfolding count
  count_ext p q [] h = refl
  count_ext p q (x ∷ l) h = omega (arith, count_ext p q l h, ap bit (h x))

  pub count_keep : (p q : R → Bool) (l : List R) → count p (keep q l) ≡ count (λ x. q x && p x) l
  unfolding count keep
  count_keep p q [] = refl
  count_keep p q (x ∷ l) = cases (q x) (λ e. rw (e, count_keep p q l)) (λ e. rw e (omega (arith, count_keep p q l)))

  -- Taking out what is not there changes no count.
  pub count_absent : (p q : R → Bool) (l : List R) → count q l ≡ 0 → count (λ x. not (q x) && p x) l ≡ count p l
  unfolding count
  count_absent p q [] h = refl
  count_absent p q (x ∷ l) h =
      let e : q x ≡ false = bit_none (q x) (omega arith) in
      rw e (omega (arith, count_absent p q l (omega arith)))

  pub count_alter : (p : R → Bool) (g : R → R) (l : List R) → count p (alter g l) ≡ count (λ x. p (g x)) l
  unfolding count alter
  count_alter p g [] = refl
  count_alter p g (x ∷ l) = rw (count_alter p g l)

  pub every_count : (p : R → Bool) (l : List R) → every p l ≡ eqb (count (λ x. not (p x)) l) 0
  unfolding every count
  every_count p [] = refl
  every_count p (x ∷ l) =
      cases (p x)
      (λ e. rw (e, every_count p l, add-zero))
      (λ e. rw (e, ne_eqb (count (λ y. not (p y)) l + 1) 0 (λ z. omega arith)))

pub all_and : (p q : ℕ → Bool) (n : ℕ) → all_below (λ k. p k && q k) n ≡ (all_below p n && all_below q n)
all_and p q n =
    agree (all_below (λ k. p k && q k) n) (all_below p n && all_below q n)
    (λ e.
    rw (
      all_put p n (λ k l. (both (p k) (q k) (all_at (λ k. p k && q k) n e k l)).0),
      all_put q n (λ k l. (both (p k) (q k) (all_at (λ k. p k && q k) n e k l)).1),
    ))
    (λ e.
    let b = both (all_below p n) (all_below q n) e in
    all_put (λ k. p k && q k) n (λ k l. rw (all_at p n b.0 k l) (all_at q n b.1 k l)))

-- Every record is counted.
pub count_length : {R : Type 0} (l : List R) → count (λ x. true) l ≡ length l
unfolding count
count_length [] = refl
count_length (x ∷ l) = omega (arith, count_length l)
