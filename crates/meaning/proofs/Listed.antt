-- A list of records that is good by itself: within its quota, each record in its range, no two alike. For any list: it
-- stays so with a record more, without some, with some changed, and in another order.
use Rattle.std.proofs.Common.{ℕ, ◌≤◌, ◌<◌, ◌≡◌, refl, ap, sym, ◌∙◌, Bool, true, false, cond, not, ◌&&◌, List, ◌∷◌, Option, Some, arith, leb, length, leb-true, le-leb}
use mathlib.Core.Bool.{or-true, false≢true}
use borrow.Author.Tests.{not-true}
use Rattle.tables.specs.Count.{count, has, every, keep, alter, without, change, sift, Same}
use Rattle.tables.proofs.Counts.{cases, both, bit_most, count_cons, count_keep, count_alter}
use Rattle.tables.proofs.Lists.{has_cons, has_true, has_false, true_has, count_no, every_both, every_map, every_alter, every_keep, every_none, every_any, count_under, count_kept, length_keep, length_alter, left_by, every_left, every_left_lem, left_some, count_sift, every_sift, length_sift, same_length, same_has, same_every}

-- What would follow is not so.
pub not_so : (a b : Bool) → b ≡ false → (a ≡ true → b ≡ true) → a ≡ false
not_so true b e f = absurd (false≢true (sym e ∙ f refl))
not_so false b e f = refl

-- ---- what holds of a changed list

module _ {R : Type 0} where
  pub every_cons : (p : R → Bool) (x : R) (l : List R) → p x ≡ true → every p l ≡ true → every p (x ∷ l) ≡ true
  unfolding every
  every_cons p x l a b = rw (a, b)

  pub has_more : (p : R → Bool) (x : R) (l : List R) → has p l ≡ true → has p (x ∷ l) ≡ true
  has_more p x l e = has_cons p x l ∙ rw e (or-true (p x))

  pub count_less : (p q : R → Bool) (l : List R) → ((x : R) → p x ≡ true → q x ≡ true) → count p l ≤ count q l
  count_less p q l f = count_under (λ x. true) p q l (every_any l) (λ x t. f x)

  pub has_map : (p q : R → Bool) (l : List R) → has p l ≡ true → ((x : R) → p x ≡ true → q x ≡ true) → has q l ≡ true
  has_map p q l e f = true_has q l (omega (arith, has_true p l e, count_less p q l f))

  -- what passes p is not taken out
  pub has_without : (p q : R → Bool) (l : List R) → has p l ≡ true → ((x : R) → p x ≡ true → q x ≡ false)
      → has p (without q l) ≡ true
  unfolding without
  has_without p q l h f =
      true_has p (keep (λ x. not (q x)) l)
      (rw (count_keep p (λ x. not (q x)) l)
      (omega (arith, has_true p l h, count_less p (λ x. not (q x) && p x) l (λ x e. rw (f x e, e)))))

  -- where none of the list passes n
  module _ (n p q : R → Bool) (l : List R) (None : has n l ≡ false)
      (f : (x : R) → n x ≡ false → p x ≡ true → q x ≡ true) where
    each_not : every (λ x. not (n x)) l ≡ true
    each_not = every_none n l (has_false n l None)

    pub every_where : every p l ≡ true → every q l ≡ true
    every_where h =
        every_map (λ x. p x && not (n x)) q l (every_both p (λ x. not (n x)) l h each_not)
        (λ x t. let c = both (p x) (not (n x)) t in f x (not-true (n x) c.1) c.0)

    pub count_where : count p l ≤ count q l
    count_where = count_under (λ x. not (n x)) p q l each_not (λ x t. f x (not-true (n x) t))

    pub has_where : has p l ≡ true → has q l ≡ true
    has_where h = true_has q l (omega (arith, has_true p l h, count_where))

  -- a record that is changed, and one that is not
  module _ (q : R → Bool) (h : R → R) where
    pub to_changed : (p r : R → Bool) → ((x : R) → q x ≡ true → p x ≡ true → r (h x) ≡ true)
        → ((x : R) → q x ≡ false → p x ≡ true → r x ≡ true) → (x : R) → p x ≡ true → r (cond (q x) (h x) x) ≡ true
    to_changed p r y n x e = cases (q x) (λ z. rw z (y x z e)) (λ z. rw z (n x z e))

    pub every_change : (p r : R → Bool) (l : List R) → every p l ≡ true
        → ((x : R) → q x ≡ true → p x ≡ true → r (h x) ≡ true) → ((x : R) → q x ≡ false → p x ≡ true → r x ≡ true)
        → every r (change q h l) ≡ true
    unfolding change
    every_change p r l e y n =
        every_alter r (λ x. cond (q x) (h x) x) l
        ∙ every_map p (λ x. r (cond (q x) (h x) x)) l e (to_changed p r y n)

    pub has_change : (p r : R → Bool) (l : List R) → has p l ≡ true
        → ((x : R) → q x ≡ true → p x ≡ true → r (h x) ≡ true) → ((x : R) → q x ≡ false → p x ≡ true → r x ≡ true)
        → has r (change q h l) ≡ true
    unfolding change
    has_change p r l e y n =
        let g : R → R = λ x. cond (q x) (h x) x in
        true_has r (alter g l)
        (omega (arith, has_true p l e, count_alter r g l, count_less p (λ x. r (g x)) l (to_changed p r y n)))

  -- each of m has what it asks of l, whatever the order of both
  pub refer_same : {S : Type 0} (p : S → R → Bool) (l l' : List R) (m m' : List S) → Same l l' → Same m m'
      → every (λ x. has (p x) l) m ≡ true → every (λ x. has (p x) l') m' ≡ true
  refer_same p l l' m m' s t e =
      sym (same_every _ m m' t) ∙ every_map _ _ m e (λ x h. sym (same_has (p x) l l' s) ∙ h)

-- ---- a list and what is asked of it

-- what is asked of a kind of records: how many a list may hold, which range each has, and which are alike
pub record Kind (R : Type 0) : Type 0 where
  pub quota : ℕ
  pub fits : R → Bool
  pub alike : R → R → Bool
  pub back : (x y : R) → alike x y ≡ true → alike y x ≡ true

-- no record is like another of the list (a period that fits is like itself)
pub record Listed {R : Type 0} (k : Kind R) (l : List R) : Type 0 where
  pub few : length l ≤ k.quota
  pub fit : every k.fits l ≡ true
  pub once : every (λ x. leb (count (k.alike x) l) 1) l ≡ true

module _ {R : Type 0} (k : Kind R) where
  -- as soundness says it: one test of each record
  pub listed : (p : R → Bool) (l : List R) → leb (length l) k.quota ≡ true → every p l ≡ true
      → ((x : R) → p x ≡ true → k.fits x ≡ true) → ((x : R) → p x ≡ true → leb (count (k.alike x) l) 1 ≡ true)
      → Listed k l
  listed p l few e fit once = record {
    few = leb-true (length l) k.quota few;
    fit = every_map p k.fits l e fit;
    once = every_map p (λ x. leb (count (k.alike x) l) 1) l e once;
  }

at_most : (m n : ℕ) → m ≤ n → leb n 1 ≡ true → leb m 1 ≡ true
at_most m n h e = le-leb m 1 (omega (arith, h, leb-true n 1 e))

module _ {R : Type 0} {k : Kind R} {l : List R} (g : Listed k l) where
  pub listed_added : (x : R) → k.fits x ≡ true → has (k.alike x) l ≡ false → length l < k.quota → Listed k (x ∷ l)
  listed_added x f n room = record {
    few = omega arith;
    fit = every_cons k.fits x l f g.fit;
    once = every_cons (λ y. leb (count (k.alike y) (x ∷ l)) 1) x l
        (le-leb (count (k.alike x) (x ∷ l)) 1
        (omega (arith, count_cons (k.alike x) x l, has_false (k.alike x) l n, bit_most (k.alike x x))))
        (every_where (k.alike x) (λ y. leb (count (k.alike y) l) 1) _ l n
        (λ y z.
        at_most (count (k.alike y) (x ∷ l)) (count (k.alike y) l)
        (omega (arith, count_no (k.alike y) x l (not_so (k.alike y x) (k.alike x y) z (k.back y x)))))
        g.once);
  }

  pub listed_without : (q : R → Bool) → Listed k (without q l)
  unfolding without
  listed_without q =
      let r : R → Bool = λ x. not (q x) in
      record {
        few = omega (arith, g.few, length_keep r l);
        fit = every_keep k.fits r l g.fit;
        once = every_keep (λ x. leb (count (k.alike x) (keep r l)) 1) r l
            (every_map _ _ l g.once
            (λ x. at_most (count (k.alike x) (keep r l)) (count (k.alike x) l) (count_kept (k.alike x) r l)));
      }

  -- where what g leaves of a record is in its range and like no record that the record was not like
  module _ (g' : R → Option R)
      (fit : (x y : R) → k.fits x ≡ true → g' x ≡ Some y → k.fits y ≡ true)
      (one : (x y z w : R) → g' x ≡ Some y → g' z ≡ Some w → k.alike y w ≡ true → k.alike x z ≡ true) where
    fit_left : (x : R) → k.fits x ≡ true → every_left k.fits (g' x) ≡ true
    fit_left x f = every_left_lem k.fits (g' x) (λ y e. fit x y f e)

    once_left : (x : R) → leb (count (k.alike x) l) 1 ≡ true
        → every_left (λ y. leb (count (k.alike y) (sift g' l)) 1) (g' x) ≡ true
    once_left x o =
        every_left_lem (λ y. leb (count (k.alike y) (sift g' l)) 1) (g' x)
        (λ y e.
        at_most (count (k.alike y) (sift g' l)) (count (k.alike x) l)
        (omega (
          arith,
          count_sift (k.alike y) g' l,
          count_less (λ z. left_by (k.alike y) (g' z)) (k.alike x) l
              (λ z h. left_some (k.alike y) (g' z) h (λ w f a. one x y z w e f a)),
        ))
        o)

    pub listed_sifted : Listed k (sift g' l)
    listed_sifted = record {
      few = omega (arith, g.few, length_sift g' l);
      fit = every_sift k.fits g' l ∙ every_map k.fits _ l g.fit fit_left;
      once = every_sift _ g' l ∙ every_map _ _ l g.once once_left;
    }

  pub listed_same : (m : List R) → Same l m → Listed k m
  listed_same m s = record {
    few = omega (arith, g.few, same_length l m s);
    fit = sym (same_every k.fits l m s) ∙ g.fit;
    once = sym (same_every _ l m s) ∙ every_map _ _ l g.once (λ x o. ap (λ n. leb n 1) (sym (s (k.alike x))) ∙ o);
  }

  -- where none passes n, h keeps the range of those that q names and makes them like no record that they were not like
  module _ (q n : R → Bool) (h : R → R) (e : has n l ≡ false)
      (fit : (x : R) → q x ≡ true → n x ≡ false → k.fits x ≡ true → k.fits (h x) ≡ true)
      (one : (x y : R) → q x ≡ true → n x ≡ false → n y ≡ false → k.alike (h x) y ≡ true → k.alike x y ≡ true)
      (two : (x y : R) → q x ≡ true → q y ≡ true → n x ≡ false → n y ≡ false → k.alike (h x) (h y) ≡ true
      → k.alike x y ≡ true) where
    abbrev to : R → R
    to x = cond (q x) (h x) x

    alike_changed : (x y : R) → n x ≡ false → n y ≡ false → k.alike (to x) (to y) ≡ true → k.alike x y ≡ true
    alike_changed x y a b =
        cases (q x)
        (λ z. cases (q y) (λ w t. two x y z w a b (rw (z, w) at t)) (λ w t. one x y z a b (rw (z, w) at t)))
        (λ z.
        cases (q y)
        (λ w t. k.back y x (one y x w b a (k.back x (h y) (rw (z, w) at t))))
        (λ w t. rw (z, w) at t))

    pub listed_changed : Listed k (change q h l)
    unfolding change
    listed_changed =
        record {
          few = omega (arith, g.few, length_alter to l);
          fit = every_alter k.fits to l
              ∙ every_where n k.fits _ l e (λ x a f. cases (q x) (λ z. rw z (fit x z a f)) (λ z. rw z f)) g.fit;
          once = every_alter (λ x. leb (count (k.alike x) (alter to l)) 1) to l
              ∙ every_where n (λ x. leb (count (k.alike x) l) 1) _ l e
              (λ x a.
              at_most (count (k.alike (to x)) (alter to l)) (count (k.alike x) l)
              (omega (
                arith,
                count_alter (k.alike (to x)) to l,
                count_where n (λ y. k.alike (to x) (to y)) (k.alike x) l e (λ y b. alike_changed x y a b),
              )))
              g.once;
        }
