-- Laws of the folds over lists: what a count of a changed list is, what holds of each record, and that the order of a
-- list carries no meaning.
use Prim.Native.Nat.{ℕ, zero, suc, ◌+◌, ◌≤◌, ◌<◌, min}
use mathlib.Core.Path.{◌≡◌, refl, ap, sym, ◌∙◌}
use mathlib.Core.Bool.{Bool, true, false, ◌&&◌, ◌||◌, not, cond, or-true, false≢true}
use mathlib.Core.List.{List, [], ◌∷◌}
use Rattle.std.specs.Prelude.{Option, Some, None}
use native.Mathlib.Omega.{arith}
use lib.Dec.{ltb, leb}
use lib.ListN.{length}
use borrow.Author.Tests.{ltb-true, ltb-false, lt-ltb, leb-true, leb-false, le-leb, lt-leb}
use Rattle.tables.specs.Count.{bit, lesser, count, has, every, keep, alter, without, change, or_none, sift, least, Same}
use Rattle.tables.proofs.Counts.{cases, both, agree, bit_none, count_keep, count_alter, count_length, every_count}

or_parted : (a b c d : Bool) → ((a || b) || (c || d)) ≡ ((a || c) || (b || d))
or_parted true b c d = refl
or_parted false b true d = or-true b
or_parted false b false d = refl

-- whether n is a number from 1 to k

unfoldable pub low : ℕ → ℕ → Bool
low k zero = false
low k (suc n) = leb (suc n) k

low_lesser : (k a b : ℕ) → low k (lesser a b) ≡ (low k a || low k b)
unfolding low
low_lesser k zero b = refl
low_lesser k (suc a) zero = cases (leb (suc a) k) (λ e. rw e) (λ e. rw e)
low_lesser k (suc a) (suc b) =
    cases (leb (suc a) k)
    (λ e. rw (e, le-leb (suc (min a b)) k (omega (arith, leb-true (suc a) k e))))
    (λ e.
    cases (leb (suc b) k)
    (λ f. rw (e, f, le-leb (suc (min a b)) k (omega (arith, leb-true (suc b) k f))))
    (λ f. rw (e, f, lt-leb (suc (min a b)) k (omega (arith, leb-false (suc a) k e, leb-false (suc b) k f)))))

low_cond : (k n : ℕ) (t : Bool) → low k (cond t n 0) ≡ (t && low k n)
unfolding low
low_cond k n true = refl
low_cond k n false = refl

low_only : (a b : ℕ) → ((k : ℕ) → low k a ≡ low k b) → a ≤ b
unfolding low
low_only zero b h = omega arith
low_only (suc a) zero h =
    absurd (false≢true (sym (h (suc a)) ∙ le-leb (suc a) (suc a) (omega arith)))
low_only (suc a) (suc b) h = leb-true (suc a) (suc b) (h (suc b) ∙ le-leb (suc b) (suc b) (omega arith))

module _ {R : Type 0} where
  -- ---- has

  pub has_cons : (p : R → Bool) (x : R) (l : List R) → has p (x ∷ l) ≡ (p x || has p l)
  unfolding has
  has_cons p x l =
      cases (p x)
      (λ e. rw e (lt-ltb 0 (count p l + 1) (omega arith)))
      (λ e. let z : count p l + 0 ≡ count p l = omega arith in rw (e, z))

  pub has_true : (p : R → Bool) (l : List R) → has p l ≡ true → 0 < count p l
  unfolding has
  has_true p l e = ltb-true 0 (count p l) e

  pub has_false : (p : R → Bool) (l : List R) → has p l ≡ false → count p l ≡ 0
  unfolding has
  has_false p l e = omega (arith, ltb-false 0 (count p l) e)

  pub true_has : (p : R → Bool) (l : List R) → 0 < count p l → has p l ≡ true
  unfolding has
  true_has p l h = lt-ltb 0 (count p l) h

  -- one passes either test exactly if one passes the first or one passes the second
  pub has_either : (p q : R → Bool) (l : List R) → has (λ x. p x || q x) l ≡ (has p l || has q l)
  unfolding has
  has_either p q [] = refl
  has_either p q (x ∷ l) =
      rw (has_cons (λ x. p x || q x) x l, has_cons p x l, has_cons q x l, has_either p q l)
      (or_parted (p x) (q x) (has p l) (has q l))

  pub has_never : (l : List R) → has (λ x. false) l ≡ false
  unfolding has count
  has_never [] = refl
  has_never (x ∷ l) = has_cons (λ x. false) x l ∙ has_never l

  pub count_no : (p : R → Bool) (x : R) (l : List R) → p x ≡ false → count p (x ∷ l) ≡ count p l
  unfolding count
  count_no p x l e = rw e (omega arith)

  -- ---- every

  -- Where each passes p and one passes q, there is one that passes both.
  pub some_of : {G : Type 0} (p q : R → Bool) (l : List R) → every p l ≡ true → 0 < count q l
      → ((x : R) → p x ≡ true → q x ≡ true → G) → G
  unfolding every count
  some_of p q [] e h k = absurd (omega arith)
  some_of p q (x ∷ l) e h k =
      let b = both (p x) (every p l) e in
      cases (q x) (λ t. k x b.0 t) (λ t. some_of p q l b.1 (omega (arith, ap bit t)) k)

  pub every_map : (p q : R → Bool) (l : List R) → every p l ≡ true → ((x : R) → p x ≡ true → q x ≡ true)
      → every q l ≡ true
  unfolding every
  every_map p q [] e h = refl
  every_map p q (x ∷ l) e h = let b = both (p x) (every p l) e in rw (h x b.0, every_map p q l b.1 h)

  pub every_both : (p q : R → Bool) (l : List R) → every p l ≡ true → every q l ≡ true
      → every (λ x. p x && q x) l ≡ true
  unfolding every
  every_both p q [] e f = refl
  every_both p q (x ∷ l) e f =
      let b = both (p x) (every p l) e in
      let d = both (q x) (every q l) f in
      rw (b.0, d.0, every_both p q l b.1 d.1)

  pub every_and : (p q : R → Bool) (l : List R) → every (λ x. p x && q x) l ≡ (every p l && every q l)
  every_and p q l =
      agree (every (λ x. p x && q x) l) (every p l && every q l)
      (λ e.
      rw (
        every_map (λ x. p x && q x) p l e (λ x t. (both (p x) (q x) t).0),
        every_map (λ x. p x && q x) q l e (λ x t. (both (p x) (q x) t).1),
      ))
      (λ e. let b = both (every p l) (every q l) e in every_both p q l b.0 b.1)

  pub every_alter : (p : R → Bool) (g : R → R) (l : List R) → every p (alter g l) ≡ every (λ x. p (g x)) l
  unfolding every alter
  every_alter p g [] = refl
  every_alter p g (x ∷ l) = rw (every_alter p g l)

  pub every_keep : (p q : R → Bool) (l : List R) → every p l ≡ true → every p (keep q l) ≡ true
  unfolding every keep
  every_keep p q [] e = refl
  every_keep p q (x ∷ l) e =
      let b = both (p x) (every p l) e in
      let r = every_keep p q l b.1 in
      cases (q x) (λ t. rw (t, b.0, r)) (λ t. rw (t, r))

  -- None passes the test: each fails it.
  pub every_none : (p : R → Bool) (l : List R) → count p l ≡ 0 → every (λ x. not (p x)) l ≡ true
  unfolding every count
  every_none p [] h = refl
  every_none p (x ∷ l) h = let e : p x ≡ false = bit_none (p x) (omega arith) in rw (e, every_none p l (omega arith))

  -- Among records that each pass r, a test that follows from another counts no more.
  pub count_under : (r p q : R → Bool) (l : List R) → every r l ≡ true
      → ((x : R) → r x ≡ true → p x ≡ true → q x ≡ true) → count p l ≤ count q l
  unfolding every count
  count_under r p q [] e h = omega arith
  count_under r p q (x ∷ l) e h =
      let b = both (r x) (every r l) e in
      let i = count_under r p q l b.1 h in
      cases (p x)
      (λ t. omega (arith, i, ap bit t, ap bit (h x b.0 t)))
      (λ t. omega (arith, i, ap bit t))

  pub count_kept : (p q : R → Bool) (l : List R) → count p (keep q l) ≤ count p l
  unfolding count keep
  count_kept p q [] = omega arith
  count_kept p q (x ∷ l) = cases (q x) (λ t. rw t (omega (arith, count_kept p q l))) (λ t. rw t (omega (arith, count_kept p q l)))

  -- ---- a list of which some are kept

  pub has_among : (p q : R → Bool) (l : List R) → has p (keep q l) ≡ has (λ x. q x && p x) l
  unfolding has
  has_among p q l = ap (ltb 0) (count_keep p q l)

  pub least_among : (f : R → ℕ) (p q : R → Bool) (l : List R) → least f p (keep q l) ≡ least f (λ x. q x && p x) l
  unfolding least keep
  least_among f p q [] = refl
  least_among f p q (x ∷ l) = cases (q x) (λ e. rw (e, least_among f p q l)) (λ e. rw (e, least_among f p q l))

  pub keep_any : (l : List R) → keep (λ x. true) l ≡ l
  unfolding keep
  keep_any [] = refl
  keep_any (x ∷ l) = ap (λ m. x ∷ m) (keep_any l)

  pub every_any : (l : List R) → every (λ x. true) l ≡ true
  unfolding every
  every_any [] = refl
  every_any (x ∷ l) = every_any l

  pub length_keep : (q : R → Bool) (l : List R) → length (keep q l) ≤ length l
  unfolding keep
  length_keep q [] = omega arith
  length_keep q (x ∷ l) = cases (q x) (λ t. rw t (omega (arith, length_keep q l))) (λ t. rw t (omega (arith, length_keep q l)))

  pub length_alter : (g : R → R) (l : List R) → length (alter g l) ≡ length l
  unfolding alter
  length_alter g [] = refl
  length_alter g (x ∷ l) = ap suc (length_alter g l)

  -- ---- the least number: the ranges from 1 on that it is in are those that some record's number is in

  pub low_least : (k : ℕ) (f : R → ℕ) (p : R → Bool) (l : List R) → low k (least f p l) ≡ has (λ x. p x && low k (f x)) l
  unfolding least low has
  low_least k f p [] = refl
  low_least k f p (x ∷ l) =
      low_lesser k (cond (p x) (f x) 0) (least f p l)
      ∙ rw (low_cond k (f x) (p x), low_least k f p l, has_cons (λ x. p x && low k (f x)) x l)

  -- ---- the order of a list carries no meaning

  pub same_length : (l m : List R) → Same l m → length l ≡ length m
  same_length l m s = sym (count_length l) ∙ s (λ x. true) ∙ count_length m

  pub same_has : (p : R → Bool) (l m : List R) → Same l m → has p l ≡ has p m
  unfolding has
  same_has p l m s = ap (ltb 0) (s p)

  pub same_least : (f : R → ℕ) (p : R → Bool) (l m : List R) → Same l m → least f p l ≡ least f p m
  same_least f p l m s =
      let e : (k : ℕ) → low k (least f p l) ≡ low k (least f p m) = λ k. low_least k f p l ∙ same_has (λ x. p x && low k (f x)) l m s ∙ sym (low_least k f p m) in
      omega (arith, low_only (least f p l) (least f p m) e, low_only (least f p m) (least f p l) (λ k. sym (e k)))

  pub same_cons : (x : R) (l m : List R) → Same l m → Same (x ∷ l) (x ∷ m)
  unfolding count
  same_cons x l m s p = ap (λ n. n + bit (p x)) (s p)

  pub same_keep : (q : R → Bool) (l m : List R) → Same l m → Same (keep q l) (keep q m)
  same_keep q l m s p = count_keep p q l ∙ s (λ x. q x && p x) ∙ sym (count_keep p q m)

  pub same_without : (q : R → Bool) (l m : List R) → Same l m → Same (without q l) (without q m)
  unfolding without
  same_without q l m s p = simp (count_keep, s)

  pub same_change : (q : R → Bool) (g : R → R) (l m : List R) → Same l m → Same (change q g l) (change q g m)
  unfolding change
  same_change q g l m s p = simp (count_alter, s)

  -- whether one is left that passes
  abbrev pub left_by : (R → Bool) → Option R → Bool
  left_by p None = false
  left_by p (Some x) = p x

  count_left : (p : R → Bool) (o : Option R) (l : List R) → count p (or_none o l) ≡ count p l + bit (left_by p o)
  unfolding count
  count_left p None l = omega arith
  count_left p (Some x) l = refl

  pub count_sift : (p : R → Bool) (g : R → Option R) (l : List R) → count p (sift g l) ≡ count (λ x. left_by p (g x)) l
  unfolding count sift
  count_sift p g [] = refl
  count_sift p g (x ∷ l) = count_left p (g x) (sift g l) ∙ rw (count_sift p g l)

  -- one that is left and passes
  pub left_some : {G : Type 0} (p : R → Bool) (o : Option R) → left_by p o ≡ true
      → ((x : R) → o ≡ Some x → p x ≡ true → G) → G
  left_some p None e k = absurd (false≢true e)
  left_some p (Some x) e k = k x refl e

  -- whether what is left, if anything, passes
  abbrev pub every_left : (R → Bool) → Option R → Bool
  every_left p None = true
  every_left p (Some x) = p x

  pub every_left_lem : (p : R → Bool) (o : Option R) → ((x : R) → o ≡ Some x → p x ≡ true) → every_left p o ≡ true
  every_left_lem p None h = refl
  every_left_lem p (Some x) h = h x refl

  every_one : (p : R → Bool) (o : Option R) (l : List R) → every p (or_none o l) ≡ (every_left p o && every p l)
  unfolding every
  every_one p None l = refl
  every_one p (Some x) l = refl

  pub every_sift : (p : R → Bool) (g : R → Option R) (l : List R)
      → every p (sift g l) ≡ every (λ x. every_left p (g x)) l
  unfolding every sift
  every_sift p g [] = refl
  every_sift p g (x ∷ l) = every_one p (g x) (sift g l) ∙ rw (every_sift p g l)

  length_one : (o : Option R) (l : List R) → length (or_none o l) ≤ suc (length l)
  length_one None l = omega arith
  length_one (Some x) l = omega arith

  pub length_sift : (g : R → Option R) (l : List R) → length (sift g l) ≤ length l
  unfolding sift
  length_sift g [] = omega arith
  length_sift g (x ∷ l) = omega (arith, length_one (g x) (sift g l), length_sift g l)

  pub same_every : (p : R → Bool) (l m : List R) → Same l m → every p l ≡ every p m
  same_every p l m s = rw (every_count p l, every_count p m, s (λ x. not (p x)))

  pub same_equal : {l m : List R} → l ≡ m → Same l m
  same_equal e p = ap (count p) e
