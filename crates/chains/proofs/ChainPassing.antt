-- One place more of any table: free, or entered into its chain; and the loop over all places.
use Prim.Native.Nat.{ℕ, ◌+◌, ◌≤◌, ◌<◌}
use mathlib.Core.Path.{◌≡◌, ap, sym, ◌∙◌}
use mathlib.Core.Bool.{Bool, true, false, ◌&&◌, not, or-false, and-true, and-false, false≢true}
use native.Mathlib.Omega.{arith}
use lib.Dec.{leb, ltb}
use lib.ListN.{get_or}
use borrow.Author.Tests.{leb-true, le-leb, not-true, not-false}
use Rattle.tables.specs.Count.{all_below}
use Rattle.tables.specs.Below.{any_below}
use Rattle.tables.proofs.Counts.{cases, cases_eq, both, all_none, all_more, all_at}
use Rattle.chains.specs.Sizes.{buckets, most_places, block_places}
use Rattle.chains.specs.declared.Seen.{Seen}
use Rattle.chains.specs.Chains.{NoneSeen, Tallied, Entered, Ready, right, Passed, AllPassed, Going, Block}
use Rattle.chains.proofs.Chaining.{chained_none, chained_free, chained_more, chained_counted, counted_none, counted_free, counted_more}

-- ---- one place

module _ (csd bucket : ℕ → ℕ) (places : ℕ) (free rest : ℕ → Bool) (p : ℕ → ℕ → Bool) (q : ℕ) where
  pub passed_free : (i : ℕ) (r : Bool) (s : Seen) → Ready csd bucket places i s
      → csd i ≡ 0 → r ≡ free i → Passed csd bucket (right csd free rest p q) i r s
  unfolding right
  passed_free i r s m e f = record {
    answered = rw e (f ∙ sym (or-false (free i)));
    counted = λ y. counted_free csd s.counts i m.counted e;
    chained = λ y. chained_free csd bucket s i m.chained e;
  }

  -- a place that is used: c is its depository, x whether that is one below its quota
  module _ (nobody : (k : ℕ) → free k ≡ true → csd k ≡ 0) (i c : ℕ) (x : Bool) (s s₁ : Seen) (m : Ready csd bucket places i s) (u : csd i ≡ 0 → ⊥) (ec : c ≡ csd i) (n : Tallied c q x s s₁) where
    used : right csd free rest p q i ≡ (x && (rest i && not (any_below (p i) i)))
    unfolding right
    used =
        rw (taken, ← ec, tried, le-leb 1 c low)
        (cases (leb c 8)
        (λ w. rw (w, ← m.counted.each c low (leb-true c 8 w)) (turned (rest i) (not (any_below (p i) i)) (ltb (get_or s.counts c 0) q)))
        (λ w. rw w))
      where
        low : 1 ≤ c
        low = cases_eq c 0 (λ z. absurd (u (sym ec ∙ z))) (λ z. omega (arith, z))

        taken : free i ≡ false
        taken = cases (free i) (λ z. absurd (u (nobody i z))) (λ z. z)

        tried : x ≡ (leb c 8 && ltb (get_or s.counts c 0) q)
        tried = n.answered

        turned : (f h l : Bool) → (f && (h && l)) ≡ (l && (f && h))
        turned f h true = rw and-true
        turned f h false = rw (and-false, and-false)

    -- a test that fails
    failed : right csd free rest p q i ≡ false → (s' : Seen)
        → Passed csd bucket (right csd free rest p q) i false s'
    failed e s' = record {
      answered = sym e;
      counted = λ y. absurd (false≢true y);
      chained = λ y. absurd (false≢true y);
    }

    pub passed_over_lem : x ≡ false → Passed csd bucket (right csd free rest p q) i false s₁
    passed_over_lem f = failed (rw (used, f)) s₁

    pub passed_unfit : rest i ≡ false → Passed csd bucket (right csd free rest p q) i false s₁
    passed_unfit f = failed (rw (used, f, and-false)) s₁

    pub passed_held : any_below (p i) i ≡ true → Passed csd bucket (right csd free rest p q) i false s₁
    passed_held f = failed (rw (used, f, and-false, and-false)) s₁

    pub passed_entered : (k : ℕ) (s' : Seen) → x ≡ true → rest i ≡ true → any_below (p i) i ≡ false
        → k ≡ bucket i → k < buckets → Entered k i s₁ s' → places ≤ most_places
        → Passed csd bucket (right csd free rest p q) i true s'
    passed_entered k s' ex er ea ek l n' few = record {
      answered = sym (rw (used, ex, er, ea));
      counted = λ y. rw n'.counted (counted_more csd s.counts s₁.counts c i m.counted (ap (λ t. t.counts) (n.stored ex)) ec (leb-true c 8 (both (leb c 8) (ltb (get_or s.counts c 0) q) (sym n.answered ∙ ex)).0));
      chained = λ y. chained_more csd bucket s₁ s' k i (chained_counted csd bucket c q x s s₁ i n ex m.chained) n' (omega (arith, m.place)) u ek l;
    }

-- ---- the loop

module _ (csd bucket : ℕ → ℕ) (places : ℕ) (good : ℕ → Bool) where
  pub going_none : (s : Seen) → NoneSeen s → Going csd bucket places good 0 s
  going_none s u = record {
    few = omega arith;
    all = all_none good;
    counted = counted_none csd s.counts u.counts;
    chained = chained_none csd bucket s u;
  }

  pub going_on : (i : ℕ) (r : Bool) (s s' : Seen)
      → Passed csd bucket good i r s' → not r ≡ false → i < places
      → Going csd bucket places good i s → Going csd bucket places good (i + 1) s'
  going_on i r s s' m f l g =
      let y : r ≡ true = not-false r f in
      record {
        few = omega arith;
        all = rw (all_more, g.all) (sym m.answered ∙ y);
        counted = m.counted y;
        chained = m.chained y;
      }

  -- one place of a block fails, or all are passed

  pub block_fails : (from i : ℕ) (r : Bool) (s' : Seen)
      → Passed csd bucket good i r s' → not r ≡ true → i < from + block_places
      → from + block_places ≤ places → Block csd bucket places good from false s'
  block_fails from i r s' m f l h =
      let y : r ≡ false = not-true r f in
      record {
        going = λ t. absurd (false≢true t);
        fails = λ t. cases (all_below good places) (λ u. absurd (false≢true (sym y ∙ m.answered ∙ all_at good places u i (omega arith)))) (λ u. u);
      }

  pub block_end : (from i : ℕ) (s : Seen) → Going csd bucket places good i s
      → i ≡ from + block_places → Block csd bucket places good from true s
  block_end from i s g e = record { going = λ y. rw e at g; fails = λ y. absurd (false≢true (sym y)) }

  -- the loop over blocks

  pub blocks_on : (i : ℕ) (r : Bool) (s : Seen) → Block csd bucket places good i r s
      → not r ≡ false → Going csd bucket places good (i + block_places) s
  blocks_on i r s m f = m.going (not-false r f)

  pub blocks_fail : (i : ℕ) (r : Bool) (s : Seen)
      → Block csd bucket places good i r s → not r ≡ true
      → AllPassed csd bucket places good false s
  blocks_fail i r s m f =
      record { answered = sym (m.fails (not-true r f)); chained = λ t. absurd (false≢true t) }

  pub going_end : (i : ℕ) (s : Seen) → Going csd bucket places good i s → places ≤ i
      → AllPassed csd bucket places good true s
  going_end i s g l =
      let e : i ≡ places = omega (arith, g.few) in
      record { answered = sym (rw e at g.all); chained = λ y. rw e at g.chained }
