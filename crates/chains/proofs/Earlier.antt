-- THE LAW OF PAIRS: no place has too many of its kind in the whole table exactly if none has too many before it.
use Prim.Native.Nat.{ℕ, zero, suc, ◌≤◌, ◌<◌}
use mathlib.Core.Path.{◌≡◌, refl, ap, sym, ◌∙◌}
use mathlib.Core.Bool.{Bool, true, false, ◌&&◌, ◌||◌, not, false≢true}
use native.Mathlib.Omega.{arith}
use lib.Dec.{eqb, leb, ltb}
use borrow.Author.Tests.{eq-eqb, ne_eqb, leb-true, le-leb, ltb-true, ltb-false, lt-ltb, not-true}
use Rattle.tables.specs.Count.{bit, count_below, all_below}
use Rattle.tables.specs.Below.{any_below}
use Rattle.tables.proofs.Counts.{cases, cases_eq, both, ands, neither, agree, count_only, all_at, all_put}
use Rattle.tables.proofs.Below.{any_never}
use Rattle.meaning.specs.Fields.{within}
use Rattle.chains.specs.Chains.{right}

any_at : (p : ℕ → Bool) (n : ℕ) → any_below p n ≡ false → (j : ℕ) → j < n → p j ≡ false
unfolding any_below
any_at p zero e j l = absurd (omega arith)
any_at p (suc n) e j l =
    let b = neither (p n) (any_below p n) e in
    cases_eq j n (λ s. rw s b.0) (λ s. any_at p n b.1 j (omega arith))

-- A place where p holds is counted past it.
count_before : (p : ℕ → Bool) (n k : ℕ) → k < n → p k ≡ true → count_below p k < count_below p n
unfolding count_below
count_before p zero k l e = absurd (omega arith)
count_before p (suc n) k l e =
    cases_eq k n
    (λ s. rw s (omega (arith, ap bit (ap p (sym s) ∙ e))))
    (λ s. omega (arith, count_before p n k (omega arith) e))

-- Where p holds at the place k alone, it is counted once.
count_once : (p : ℕ → Bool) (k n : ℕ) → ((j : ℕ) → j < n → p j ≡ true → j ≡ k) → count_below p n ≤ 1
unfolding count_below
count_once p k zero h = omega arith
count_once p k (suc n) h =
    cases (p n)
    (λ e.
    let z : count_below p n ≤ 0 = count_zero n (λ j l. cases (p j) (λ f. absurd (omega (arith, h j (omega arith) f, h n (omega arith) e))) (λ f. f)) in
    omega (arith, ap bit e))
    (λ e. omega (arith, ap bit e, count_once p k n (λ j l. h j (omega arith))))
  where
    count_zero : (m : ℕ) → ((j : ℕ) → j < m → p j ≡ false) → count_below p m ≤ 0
    count_zero zero g = omega arith
    count_zero (suc m) g = omega (arith, ap bit (g m (omega arith)), count_zero m (λ j l. g j (omega arith)))

module _ (csd : ℕ → ℕ) (free rest : ℕ → Bool) (p : ℕ → ℕ → Bool) (q n : ℕ) where
  abbrev same : ℕ → ℕ → Bool
  same k j = eqb (csd j) (csd k)

  -- a place judged by the whole table
  abbrev pub whole : ℕ → Bool
  whole k = free k || (within 1 8 (csd k) && (rest k && (leb (count_below (p k) n) 1 && leb (count_below (same k) n) q)))

  module _ (nobody : (k : ℕ) → free k ≡ true → csd k ≡ 0) (back : (k j : ℕ) → p k j ≡ true → p j k ≡ true) (own : (k j : ℕ) → p k j ≡ true → csd j ≡ csd k) (self : (k : ℕ) → rest k ≡ true → p k k ≡ true) where
    whole_right : (k : ℕ) → k < n → whole k ≡ true → right csd free rest p q k ≡ true
    unfolding right
    whole_right k l e =
        cases (free k) (λ f. rw f)
        (λ f.
        let t : (within 1 8 (csd k) && (rest k && (leb (count_below (p k) n) 1 && leb (count_below (same k) n) q))) ≡ true = rw f at e in
        let w : within 1 8 (csd k) ≡ true = search ands in
        let r : rest k ≡ true = search ands in
        let once = leb-true (count_below (p k) n) 1 (search ands) in
        let few = leb-true (count_below (same k) n) q (search ands) in
        let none : any_below (p k) k ≡ false =
        any_never (p k) k (λ j h. cases (p k j) (λ y. absurd (omega (arith, count_only (p k) n once j k (omega arith) l y (self k r)))) (λ y. y))
        in
        rw (f, w, r, none) (lt-ltb (count_below (same k) k) q (omega (arith, count_before (same k) n k l (eq-eqb (csd k) (csd k) refl)))))

    module _ (all : (k : ℕ) → k < n → right csd free rest p q k ≡ true) where
      -- what is known of a place that is a depository's
      before : (k : ℕ) → k < n → free k ≡ false
          → (within 1 8 (csd k) && (rest k && (not (any_below (p k) k) && ltb (count_below (same k) k) q))) ≡ true
      unfolding right
      before k l f = rw f at (all k l)

      taken : (k : ℕ) → 1 ≤ csd k → free k ≡ false
      taken k l = cases (free k) (λ z. absurd (omega (arith, nobody k z))) (λ z. z)

      none_before : (k j : ℕ) → k < n → free k ≡ false → j < k → p k j ≡ true → ⊥
      none_before k j l f h y =
          let t = before k l f in
          let z = any_at (p k) k (not-true (any_below (p k) k) (search ands)) j h in
          false≢true (sym z ∙ y)

      few_of : (a m : ℕ) → 1 ≤ a → m ≤ n → count_below (λ j. eqb (csd j) a) m ≤ q
      unfolding count_below
      few_of a zero l h = omega arith
      few_of a (suc m) l h =
          cases_eq (csd m) a
          (λ e.
          let t = before m (omega arith) (taken m (omega (arith, e))) in
          let u = ltb-true (count_below (same m) m) q (search ands) in
          omega (arith, ap bit (eq-eqb (csd m) a e), ap (λ x. count_below (λ j. eqb (csd j) x) m) e))
          (λ e. omega (arith, ap bit (ne_eqb (csd m) a e), few_of a m l (omega arith)))

      right_whole : (k : ℕ) → k < n → whole k ≡ true
      right_whole k l =
          cases (free k) (λ f. rw f)
          (λ f.
          let t = before k l f in
          let w : within 1 8 (csd k) ≡ true = search ands in
          let r : rest k ≡ true = search ands in
          let low = leb-true 1 (csd k) (both (leb 1 (csd k)) (leb (csd k) 8) w).0 in
          let once : count_below (p k) n ≤ 1 = count_once (p k) k n (alone k l f low) in
          rw (f, w, r, le-leb (count_below (p k) n) 1 once) (le-leb (count_below (same k) n) q (few_of (csd k) n low (omega arith))))
        where
          alone : (k : ℕ) → k < n → free k ≡ false → 1 ≤ csd k → (j : ℕ) → j < n → p k j ≡ true → j ≡ k
          alone k l f low j h y =
              cases (ltb j k)
              (λ a. absurd (none_before k j l f (ltb-true j k a) y))
              (λ a.
              cases (ltb k j)
              (λ b. absurd (none_before j k h (taken j (omega (arith, own k j y))) (ltb-true k j b) (back k j y)))
              (λ b. omega (arith, ltb-false j k a, ltb-false k j b)))

    pub pairs_earlier : all_below whole n ≡ all_below (right csd free rest p q) n
    pairs_earlier =
        agree (all_below whole n) (all_below (right csd free rest p q) n)
        (λ e. all_put (right csd free rest p q) n (λ k l. whole_right k l (all_at whole n e k l)))
        (λ e. all_put whole n (right_whole (all_at (right csd free rest p q) n e)))
