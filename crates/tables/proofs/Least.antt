-- The least number of those that pass a test: it is reached, none is below it, and it does not change where the tests
-- and numbers of the list's records do not.
use Prim.Native.Nat.{ℕ, zero, suc, ◌-◌, ◌≤◌, ◌<◌}
use mathlib.Core.Path.{◌≡◌, refl, ap, sym, ◌∙◌}
use mathlib.Core.Bool.{Bool, true, false, ◌&&◌, not, cond, and-false, false≢true}
use mathlib.Core.List.{List, [], ◌∷◌}
use native.Mathlib.Omega.{arith}
use lib.Dec.{eqb, ltb, leb}
use borrow.Author.Tests.{eqb-true, eq-eqb, leb-true, le-leb, leb-false, ltb-true, lt-ltb, lt-leb, not-true, ltb-false}
use Rattle.tables.specs.Count.{count, has, every, keep, alter, least}
use Rattle.tables.proofs.Counts.{cases, cases_eq, both, ands, count_ext, count_keep, count_alter}
use Rattle.tables.proofs.Lists.{low, low_least, has_cons, has_true, has_false, true_has, every_none, every_both, every_any, some_of, count_under}

-- what low says
pub low_true : (k n : ℕ) → low k n ≡ true → (1 ≤ n) × (n ≤ k)
unfolding low
low_true k zero e = absurd (false≢true e)
low_true k (suc n) e = (omega arith, leb-true (suc n) k e)

pub true_low : (k n : ℕ) → 1 ≤ n → n ≤ k → low k n ≡ true
unfolding low
true_low k zero h i = absurd (omega arith)
true_low k (suc n) h i = le-leb (suc n) k i

low_false : (k n : ℕ) → k < n → low k n ≡ false
unfolding low
low_false k zero h = refl
low_false k (suc n) h = lt-leb (suc n) k h

low_below : (n : ℕ) → low (n - 1) n ≡ false
unfolding low
low_below zero = refl
low_below (suc n) = low_false (suc n - 1) (suc n) (omega arith)

-- what passes is not below the least
no_less : (m n : ℕ) (t : Bool) → not (t && low (m - 1) n) ≡ true → t ≡ true → 1 ≤ n → m ≤ n
no_less m n t e u j =
    cases (leb m n)
    (λ z. leb-true m n z)
    (λ z.
    absurd
    (false≢true
    (sym (not-true (t && low (m - 1) n) e) ∙ rw (u, true_low (m - 1) n j (omega (arith, leb-false m n z))))))

module _ {R : Type 0} where
  -- among records that each pass r, what follows from p is had where p is
  pub has_under : (r p q : R → Bool) (l : List R) → every r l ≡ true → has p l ≡ true
      → ((x : R) → r x ≡ true → p x ≡ true → q x ≡ true) → has q l ≡ true
  has_under r p q l e h f = true_has q l (omega (arith, has_true p l h, count_under r p q l e f))

  -- among these, tests that agree count alike
  pub count_agree : (r p q : R → Bool) (l : List R) → every r l ≡ true → ((x : R) → r x ≡ true → p x ≡ q x)
      → count p l ≡ count q l
  count_agree r p q l e f =
      omega (
        arith,
        count_under r p q l e (λ x a b. sym (f x a) ∙ b),
        count_under r q p l e (λ x a b. f x a ∙ b),
      )

  pub has_agree : (r p q : R → Bool) (l : List R) → every r l ≡ true → ((x : R) → r x ≡ true → p x ≡ q x)
      → has p l ≡ has q l
  unfolding has
  has_agree r p q l e f = ap (ltb 0) (count_agree r p q l e f)

  pub has_alter : (p : R → Bool) (g : R → R) (l : List R) → has p (alter g l) ≡ has (λ x. p (g x)) l
  unfolding has
  has_alter p g l = ap (ltb 0) (count_alter p g l)

  pub least_alter : (f : R → ℕ) (p : R → Bool) (g : R → R) (l : List R)
      → least f p (alter g l) ≡ least (λ x. f (g x)) (λ x. p (g x)) l
  unfolding least alter
  least_alter f p g [] = refl
  least_alter f p g (x ∷ l) = rw (least_alter f p g l)

  -- where records that pass r agree in what they count for
  pub least_agree : (r : R → Bool) (f g : R → ℕ) (p q : R → Bool) (l : List R) → every r l ≡ true
      → ((x : R) → r x ≡ true → p x ≡ q x) → ((x : R) → r x ≡ true → p x ≡ true → f x ≡ g x)
      → least f p l ≡ least g q l
  unfolding least every
  least_agree r f g p q [] e h i = refl
  least_agree r f g p q (x ∷ l) e h i =
      let b = both (r x) (every r l) e in
      let t : cond (p x) (f x) 0 ≡ cond (q x) (g x) 0 =
      cases (p x) (λ z. rw (z, sym (h x b.0) ∙ z) (i x b.0 z)) (λ z. rw (z, sym (h x b.0) ∙ z)) in
      rw (t, least_agree r f g p q l b.1 h i)

  -- what does not pass may be taken out
  pub has_keep : (p q : R → Bool) (l : List R) → ((x : R) → p x ≡ true → q x ≡ true) → has p (keep q l) ≡ has p l
  unfolding has
  has_keep p q l h =
      ap (ltb 0) (count_keep p q l ∙ count_ext _ _ l (λ x. cases (p x) (λ e. rw (h x e)) (λ e. rw e (and-false (q x)))))

  pub least_keep : (f : R → ℕ) (p q : R → Bool) (l : List R) → ((x : R) → p x ≡ true → q x ≡ true)
      → least f p (keep q l) ≡ least f p l
  unfolding least keep
  least_keep f p q [] h = refl
  least_keep f p q (x ∷ l) h =
      cases (p x)
      (λ e. rw (h x e, least_keep f p q l h))
      (λ e. cases (q x) (λ z. rw (z, least_keep f p q l h)) (λ z. rw (z, e, least_keep f p q l h)))

  -- where none that is kept passes, there is none and no least
  pub has_none : (p q : R → Bool) (l : List R) → ((x : R) → q x ≡ true → p x ≡ false) → has p (keep q l) ≡ false
  unfolding has keep count
  has_none p q [] h = refl
  has_none p q (x ∷ l) h =
      cases (q x)
      (λ e. rw e (has_cons p x (keep q l) ∙ rw (h x e) (has_none p q l h)))
      (λ e. rw e (has_none p q l h))

  pub least_no : (f : R → ℕ) (p r : R → Bool) (l : List R) → every r l ≡ true → ((x : R) → r x ≡ true → p x ≡ false)
      → least f p l ≡ 0
  unfolding least every
  least_no f p r [] e h = refl
  least_no f p r (x ∷ l) e h =
      let b = both (r x) (every r l) e in
      rw (h x b.0, least_no f p r l b.1 h)

  every_kept : (q : R → Bool) (l : List R) → every q (keep q l) ≡ true
  unfolding every keep
  every_kept q [] = refl
  every_kept q (x ∷ l) = cases (q x) (λ e. rw (e, every_kept q l, e)) (λ e. rw (e, every_kept q l))

  pub least_none : (f : R → ℕ) (p q : R → Bool) (l : List R) → ((x : R) → q x ≡ true → p x ≡ false)
      → least f p (keep q l) ≡ 0
  least_none f p q l = least_no f p q (keep q l) (every_kept q l)

  module _ (f : R → ℕ) (p : R → Bool) (l : List R) where
    -- a record that passes is at least the least, which then is there
    pub least_most : (k : ℕ) → has (λ x. p x && low k (f x)) l ≡ true → (1 ≤ least f p l) × (least f p l ≤ k)
    least_most k e = low_true k (least f p l) (low_least k f p l ∙ e)

    -- none that passes is below it
    pub least_first : every (λ x. not (p x && low (least f p l - 1) (f x))) l ≡ true
    least_first =
        every_none _ l (has_false _ l (sym (low_least (least f p l - 1) f p l) ∙ low_below (least f p l)))

    -- it is reached
    pub least_reached : 1 ≤ least f p l → has (λ x. p x && eqb (f x) (least f p l)) l ≡ true
    least_reached h =
        has_under _ (λ x. p x && low (least f p l) (f x)) _ l least_first
        (sym (low_least (least f p l) f p l) ∙ true_low (least f p l) (least f p l) h (omega arith))
        (λ x n t.
        let b = both (p x) (low (least f p l) (f x)) t in
        let r = low_true (least f p l) (f x) b.1 in
        rw (b.0, eq-eqb (f x) (least f p l) (omega (arith, r.1, no_less (least f p l) (f x) (p x) n b.0 r.0))))

  -- Two numberings that differ only at the records that pass k, which are a by the one and c by the other.
  module _ (f g : R → ℕ) (k : R → Bool) (a c : ℕ) (one : (x : R) → k x ≡ true → f x ≡ a)
      (two : (x : R) → k x ≡ true → g x ≡ c) (else : (x : R) → k x ≡ false → f x ≡ g x) (p : R → Bool) (l : List R) where
    -- a least that is not a is reached by a record that does not differ
    least_kept : (least f p l ≡ a → ⊥) → 1 ≤ least f p l → (1 ≤ least g p l) × (least g p l ≤ least f p l)
    least_kept n h =
        least_most g p l (least f p l)
        (has_under _ (λ x. p x && eqb (f x) (least f p l)) _ l (every_any l) (least_reached f p l h)
        (λ x u t.
        let b = both (p x) (eqb (f x) (least f p l)) t in
        let e = eqb-true (f x) (least f p l) b.1 in
        cases (k x)
        (λ z. absurd (n (sym e ∙ one x z)))
        (λ z. rw b.0 (true_low (least f p l) (g x) (omega (arith, else x z)) (omega (arith, else x z))))))

    -- where it was a, and some stand between a and c, it is the least of those by the other
    module _ (r : R → Bool) (e : every r l ≡ true) (i : 1 ≤ a) (w : least f p l ≡ a)
        (only : (x : R) → r x ≡ true → p x ≡ true → f x ≡ a → k x ≡ true) where
      abbrev among : R → Bool
      among x = p x && ltb a (f x) && ltb (f x) c

      among_parts : (x : R) → among x ≡ true → (p x ≡ true) × (a < f x) × (f x < c)
      among_parts x t = (search ands, ltb-true a (f x) (search ands), ltb-true (f x) c (search ands))

      -- it is between them
      among_range : has among l ≡ true → (1 ≤ least f among l) × (least f among l ≤ c)
      among_range h =
          least_most f among l c
          (has_under _ among _ l (every_any l) h
          (λ x u t. let b = among_parts x t in rw (t, true_low c (f x) (omega (arith, b.1)) (omega (arith, b.2)))))

      -- one of those is at most that by the other too
      among_most : 1 ≤ least f among l → (1 ≤ least g p l) × (least g p l ≤ least f among l)
      among_most h =
          least_most g p l (least f among l)
          (has_under _ (λ x. among x && eqb (f x) (least f among l)) _ l (every_any l) (least_reached f among l h)
          (λ x u t.
          let d = both (among x) (eqb (f x) (least f among l)) t in
          let b = among_parts x d.0 in
          let z = eqb-true (f x) (least f among l) d.1 in
          let n : k x ≡ false = cases (k x) (λ y. absurd (omega (arith, one x y, b.1))) (λ y. y) in
          rw b.0 (true_low (least f among l) (g x) (omega (arith, else x n, z)) (omega (arith, else x n, z)))))

      -- and none is less: what stands at or before a differs, and what stands behind c is no less than c
      among_least : has among l ≡ true → (x : R) → r x ≡ true → not (p x && low (least f p l - 1) (f x)) ≡ true
          → not (among x && low (least f among l - 1) (f x)) ≡ true → p x ≡ true → 1 ≤ g x → least f among l ≤ g x
      among_least h x u n m t j =
          cases (k x)
          (λ z. omega (arith, two x z, (among_range h).1))
          (λ z.
          let q = else x z in
          let b = no_less (least f p l) (f x) (p x) n t (omega (arith, q)) in
          cases_eq (f x) a
          (λ y. absurd (false≢true (sym z ∙ only x u t y)))
          (λ y.
          cases (ltb (f x) c)
          (λ v.
          let y' : among x ≡ true = rw (t, lt-ltb a (f x) (omega arith), v) in
          omega (arith, q, no_less (least f among l) (f x) (among x) m y' (omega (arith, q))))
          (λ v. omega (arith, q, ltb-false (f x) c v, (among_range h).1))))

      pub least_among : has among l ≡ true → least g p l ≡ least f among l
      least_among h =
          let m = among_most (among_range h).0 in
          let n : least f among l ≤ least g p l =
          some_of (λ x. r x && (not (p x && low (least f p l - 1) (f x)) && not (among x && low (least f among l - 1) (f x))))
          (λ x. p x && eqb (g x) (least g p l)) l
          (every_both _ _ l e (every_both _ _ l (least_first f p l) (least_first f among l)))
          (has_true _ l (least_reached g p l m.0))
          (λ x u t.
          let d = both (p x) (eqb (g x) (least g p l)) t in
          let z = eqb-true (g x) (least g p l) d.1 in
          omega (arith, z, m.0, among_least h x (search ands) (search ands) (search ands) d.0 (omega (arith, z, m.0)))) in
          omega (arith, m.1, n)

  -- neither is the differing record: both are reached by one that does not differ
  pub least_apart : (f g : R → ℕ) (k : R → Bool) (a c : ℕ) → ((x : R) → k x ≡ true → f x ≡ a)
      → ((x : R) → k x ≡ true → g x ≡ c) → ((x : R) → k x ≡ false → f x ≡ g x) → (p : R → Bool) (l : List R)
      → (least f p l ≡ a → ⊥) → (least g p l ≡ c → ⊥) → least g p l ≡ least f p l
  least_apart f g k a c one two else p l n m =
      let to = least_kept f g k a c one two else p l n in
      let back = least_kept g f k c a two one (λ x z. sym (else x z)) p l m in
      cases (leb 1 (least f p l))
      (λ z. let t = to (leb-true 1 (least f p l) z) in omega (arith, t.0, t.1, (back t.0).1))
      (λ z.
      cases (leb 1 (least g p l))
      (λ y. absurd (omega (arith, leb-false 1 (least f p l) z, (back (leb-true 1 (least g p l) y)).0)))
      (λ y. omega (arith, leb-false 1 (least f p l) z, leb-false 1 (least g p l) y)))
