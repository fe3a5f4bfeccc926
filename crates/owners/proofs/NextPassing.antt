-- What a pass over a table's places leaves as it is where it goes on at the depository's next place: a count of its
-- places, and a table addressed by key.
use Prim.Native.Nat.{ℕ, zero, suc, ◌+◌, ◌≤◌}
use mathlib.Core.Path.{◌≡◌, ap, sym, ◌∙◌}
use mathlib.Core.Bool.{Bool, false, ◌&&◌}
use mathlib.Core.List.{List}
use native.Mathlib.Omega.{arith}
use lib.Dec.{eqb}
use Rattle.tables.specs.Count.{count_below}
use Rattle.tables.specs.Keyed.{entry, after_place, Keyed}
use Rattle.tables.proofs.Counts.{cases_eq}
use Rattle.tables.proofs.Keying.{keyed_more}
use Rattle.owners.specs.Next.{next, Passed}
use Rattle.owners.proofs.Finding.{next_low, next_passed}

-- A fold over the places below n that does not change at places where p does not hold.
fold_over : {A : Type 0} (f : ℕ → A) (p : ℕ → Bool) → ((j : ℕ) → p j ≡ false → f (suc j) ≡ f j) → (i k : ℕ) → i ≤ k
    → Passed p i k → f k ≡ f i
fold_over f p h i zero l g = let e : 0 ≡ i = omega arith in ap f e
fold_over f p h i (suc k) l g =
    cases_eq i (suc k) (λ e. ap f (sym e))
    (λ e. h k (g k (omega arith) (omega arith)) ∙ fold_over f p h i k (omega arith) (λ j a b. g j a (omega arith)))

module _ {P : Type 0} (csd : P → ℕ) (a : ℕ) (at : ℕ → P) (places : ℕ) where
  fold_next : {A : Type 0} (f : ℕ → A) → ((j : ℕ) → eqb (csd (at j)) a ≡ false → f (suc j) ≡ f j) → (i k : ℕ)
      → k ≡ next (λ j. eqb (csd (at j)) a) places i → i ≤ places → f k ≡ f i
  fold_next f h i k e l =
      fold_over f (λ j. eqb (csd (at j)) a) h i k (omega (arith, e, next_low (λ j. eqb (csd (at j)) a) places i l))
      (rw e (next_passed (λ j. eqb (csd (at j)) a) places i l))

  -- A count of its places.
  pub count_next : (f : P → Bool) (i k n : ℕ) → k ≡ next (λ j. eqb (csd (at j)) a) places i → i ≤ places
      → n ≡ count_below (λ j. eqb (csd (at j)) a && f (at j)) i → n ≡ count_below (λ j. eqb (csd (at j)) a && f (at j)) k
  unfolding count_below
  count_next f i k n e l c = c ∙ sym (fold_next (count_below (λ j. eqb (csd (at j)) a && f (at j))) still i k e l)
    where
      still : (j : ℕ) → eqb (csd (at j)) a ≡ false
          → count_below (λ j. eqb (csd (at j)) a && f (at j)) (suc j)
          ≡ count_below (λ j. eqb (csd (at j)) a && f (at j)) j
      still j o = rw o (omega arith)

  module _ (key : P → ℕ) (on : P → Bool) where
    -- A table addressed by key.
    pub keyed_next : (size : ℕ) (step : P → ℕ → ℕ) (t : List ℕ) (i k : ℕ) → Keyed size csd a at key on step t i
        → k ≡ next (λ j. eqb (csd (at j)) a) places i → i ≤ places → Keyed size csd a at key on step t k
    unfolding entry
    keyed_next size step t i k m e l = record {
      long = m.long;
      each = λ x h. m.each x h ∙ sym (fold_next (entry csd a at key on step x) (still x) i k e l);
    }
      where
        still : (x j : ℕ) → eqb (csd (at j)) a ≡ false
            → entry csd a at key on step x (suc j) ≡ entry csd a at key on step x j
        still x j o = rw o

-- One step of a pass: from the depository's next place to the one behind it, or to the table's end.
module _ {P : Type 0} (size : ℕ) (csd : P → ℕ) (a : ℕ) (at : ℕ → P) (key : P → ℕ) (on : P → Bool) (step : P → ℕ → ℕ) (places : ℕ) where
  pub pass_more : (t t' : List ℕ) (i k : ℕ) → t' ≡ after_place csd a key on step (at k) t
      → k ≡ next (λ j. eqb (csd (at j)) a) places i → i ≤ places → Keyed size csd a at key on step t i
      → Keyed size csd a at key on step t' (k + 1)
  pass_more t t' i k e n l m = keyed_more size csd a at key on step t t' k (keyed_next csd a at places key on size step t i k m n l) e

  pub pass_end : (t : List ℕ) (i k : ℕ) → k ≡ next (λ j. eqb (csd (at j)) a) places i → i ≤ places → k ≡ places
      → Keyed size csd a at key on step t i → Keyed size csd a at key on step t places
  pass_end t i k n l e m = rw e at (keyed_next csd a at places key on size step t i k m n l)
