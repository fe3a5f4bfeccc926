-- What one pass over a table leaves of its places, of the depositories' lists and of every table that lies apart.
use Prim.Native.Nat.{ℕ, zero, suc, ◌≤◌, ◌<◌}
use mathlib.Core.Path.{◌≡◌, refl, ap, sym, ◌∙◌}
use mathlib.Core.Bool.{true, false, cond}
use mathlib.Core.List.{List, ◌∷◌}
use Rattle.std.specs.Prelude.{Option, Some, None}
use native.Mathlib.Omega.{arith}
use lib.Dec.{eqb}
use lib.ListN.{length}
use borrow.Author.Tests.{eqb-true, ne_eqb}
use Rattle.tables.specs.Count.{sift, or_none, lone}
use Rattle.tables.specs.Table.{Table, end, list_of, Lies, Fits, Apart}
use Rattle.tables.specs.Sweep.{sweep_to}
use Rattle.tables.proofs.Counts.{cases, cases_eq}
use Rattle.tables.proofs.Lone.{lone_same}
use Rattle.tables.proofs.Stored.{length_stored, back, other, apart}

-- what stands at a place, if it is depository a's
abbrev pub of_owner : {P R : Type 0} → (P → ℕ) → (P → R) → ℕ → P → Option R
of_owner csd rec a x = cond (eqb (csd x) a) (Some (rec x)) None

of_owner_lem : {P R : Type 0} (csd : P → ℕ) (rec : P → R) (a : ℕ) (x : P) (l : List R)
    → cond (eqb (csd x) a) (rec x ∷ l) l ≡ or_none (of_owner csd rec a x) l
of_owner_lem csd rec a x l = cases (eqb (csd x) a) (λ e. rw e) (λ e. rw e)

-- Where h says what stands afterwards at each place of a's, and other places stay, a's list is sifted by h.
pub lone_sifted : {P R : Type 0} (csd : P → ℕ) (rec : P → R) (a : ℕ) (h : R → Option R) (at at' : ℕ → P) (n : ℕ)
    → ((k : ℕ) → k < n → eqb (csd (at k)) a ≡ true → of_owner csd rec a (at' k) ≡ h (rec (at k)))
    → ((k : ℕ) → k < n → eqb (csd (at k)) a ≡ false → eqb (csd (at' k)) a ≡ false)
    → lone csd rec a at' n ≡ sift h (lone csd rec a at n)
unfolding lone sift
lone_sifted csd rec a h at at' zero own others = refl
lone_sifted csd rec a h at at' (suc n) own others =
    let r = lone_sifted csd rec a h at at' n (λ k l. own k (omega arith)) (λ k l. others k (omega arith)) in
    cases (eqb (csd (at n)) a)
    (λ e. rw (e, r) (of_owner_lem csd rec a (at' n) (sift h (lone csd rec a at n)) ∙ ap (λ o. or_none o (sift h (lone csd rec a at n))) (own n (omega arith) e)))
    (λ e. rw (e, others n (omega arith) e) r)

-- A depository's list stays where its places do and it gets no other.
lone_kept : {P R : Type 0} (csd : P → ℕ) (rec : P → R) (c : ℕ) (at at' : ℕ → P) (n : ℕ)
    → ((k : ℕ) → k < n → eqb (csd (at k)) c ≡ true → at' k ≡ at k)
    → ((k : ℕ) → k < n → eqb (csd (at k)) c ≡ false → eqb (csd (at' k)) c ≡ false)
    → lone csd rec c at' n ≡ lone csd rec c at n
unfolding lone
lone_kept csd rec c at at' zero own others = refl
lone_kept csd rec c at at' (suc n) own others =
    let r = lone_kept csd rec c at at' n (λ k l. own k (omega arith)) (λ k l. others k (omega arith)) in
    cases (eqb (csd (at n)) c)
    (λ e. rw (own n (omega arith) e, r))
    (λ e. rw (e, others n (omega arith) e) r)

module _ {P R : Type 0} (t : Table P R) (f : Lies t) (a : ℕ) (step : List ℕ → P → P) (b : List ℕ) where
  -- the book when place k is reached
  abbrev reached : ℕ → List ℕ
  reached k = sweep_to t a step b k

  pub swept_size : (n : ℕ) → length (reached n) ≡ length b
  unfolding sweep_to
  swept_size zero = refl
  swept_size (suc n) =
      cases (eqb (t.csd (t.at (reached n) n)) a)
      (λ e. rw e (length_stored t f (reached n) n (step (reached n) (t.at (reached n) n)) ∙ swept_size n))
      (λ e. rw e (swept_size n))

  -- a place that is not reached yet reads as before
  pub swept_ahead : (n k : ℕ) → n ≤ k → t.at (reached n) k ≡ t.at b k
  unfolding sweep_to
  swept_ahead zero k l = refl
  swept_ahead (suc n) k l =
      cases (eqb (t.csd (t.at (reached n) n)) a)
      (λ e.
      rw e
      (other t f (reached n) n (step (reached n) (t.at (reached n) n)) k (λ z. omega arith) ∙ swept_ahead n k (omega arith)))
      (λ e. rw e (swept_ahead n k (omega arith)))

  -- a table that lies apart reads as before
  pub swept_apart : {Q S : Type 0} (u : Table Q S) → Lies u → Apart t u → (n k : ℕ) → n ≤ t.places → k < u.places
      → u.at (reached n) k ≡ u.at b k
  unfolding sweep_to
  swept_apart u g p zero k l m = refl
  swept_apart u g p (suc n) k l m =
      cases (eqb (t.csd (t.at (reached n) n)) a)
      (λ e.
      rw e
      (apart t f (reached n) n (step (reached n) (t.at (reached n) n)) u g k p (omega arith) m
      ∙ swept_apart u g p n k (omega arith) m))
      (λ e. rw e (swept_apart u g p n k (omega arith) m))

  pub list_apart : {Q S : Type 0} (u : Table Q S) → Lies u → Apart t u → (n c : ℕ) → n ≤ t.places
      → list_of u c (reached n) ≡ list_of u c b
  list_apart u g p n c l = lone_same u.csd u.rec c (u.at b) (u.at (reached n)) u.places (λ k m. swept_apart u g p n k l m)

  -- what the step makes of place k
  abbrev made : ℕ → P
  made k = step (reached k) (t.at b k)

  module _ (inside : end t ≤ length b)
      (fits : (k : ℕ) → k < t.places → t.csd (t.at b k) ≡ a → Fits t (made k)) where
    -- a place that was passed
    pub swept_passed : (n k : ℕ) → n ≤ t.places → k < n
        → t.at (reached n) k ≡ cond (eqb (t.csd (t.at b k)) a) (made k) (t.at b k)
    unfolding sweep_to
    swept_passed zero k u l = absurd (omega arith)
    swept_passed (suc n) k u l =
        let here = swept_ahead n n (omega arith) in
        cases_eq k n
        (λ z.
        rw (z, here)
        (cases (eqb (t.csd (t.at b n)) a)
        (λ e.
        rw e
        (back t f (reached n) n (made n) (fits n (omega arith) (eqb-true (t.csd (t.at b n)) a e)) (omega arith)
        (omega (arith, inside, swept_size n))))
        (λ e. rw e here)))
        (λ z.
        rw here
        (cases (eqb (t.csd (t.at b n)) a)
        (λ e. rw e (other t f (reached n) n (made n) k z ∙ swept_passed n k (omega arith) (omega arith)))
        (λ e. rw e (swept_passed n k (omega arith) (omega arith)))))

    -- a's list is sifted by what h says of each record
    pub list_sifted : (h : R → Option R)
        → ((k : ℕ) → k < t.places → t.csd (t.at b k) ≡ a → of_owner t.csd t.rec a (made k) ≡ h (t.rec (t.at b k)))
        → list_of t a (reached t.places) ≡ sift h (list_of t a b)
    list_sifted h says =
        lone_sifted t.csd t.rec a h (t.at b) (t.at (reached t.places)) t.places
        (λ k l e.
        ap (of_owner t.csd t.rec a) (swept_passed t.places k (omega arith) l ∙ rw e)
        ∙ says k l (eqb-true (t.csd (t.at b k)) a e))
        (λ k l e. ap (λ x. eqb (t.csd x) a) (swept_passed t.places k (omega arith) l ∙ rw e) ∙ e)

    -- another's list stays, where no step hands a place over
    pub list_other : (c : ℕ) → (a ≡ c → ⊥)
        → ((k : ℕ) → k < t.places → t.csd (t.at b k) ≡ a → t.csd (made k) ≡ c → ⊥)
        → list_of t c (reached t.places) ≡ list_of t c b
    list_other c d kept =
        lone_kept t.csd t.rec c (t.at b) (t.at (reached t.places)) t.places
        (λ k l e.
        let z = eqb-true (t.csd (t.at b k)) c e in
        swept_passed t.places k (omega arith) l ∙ rw (ne_eqb (t.csd (t.at b k)) a (λ y. d (sym y ∙ z))))
        (λ k l e.
        ap (λ x. eqb (t.csd x) c) (swept_passed t.places k (omega arith) l)
        ∙ cases (eqb (t.csd (t.at b k)) a)
        (λ y. rw y (ne_eqb (t.csd (made k)) c (kept k l (eqb-true (t.csd (t.at b k)) a y))))
        (λ y. rw y e))
