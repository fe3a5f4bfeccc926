-- Laws of the lone list of any table: what is counted in it, what a store at one place makes of it, and what holds of
-- each record in it.
use Prim.Native.Nat.{ℕ, zero, suc, ◌+◌, ◌-◌, ◌≤◌, ◌<◌}
use mathlib.Core.Path.{◌≡◌, refl, ap, sym, ◌∙◌}
use mathlib.Core.Bool.{Bool, true, false, ◌&&◌, ◌||◌, not, cond}
use mathlib.Core.List.{◌∷◌}
use native.Mathlib.Omega.{arith}
use lib.Dec.{eqb, leb}
use borrow.Author.Tests.{eqb-true, eq-eqb, leb-true}
use Rattle.tables.specs.Count.{bit, count_below, all_below, count, every, keep, alter, Same, lone}
use Rattle.tables.proofs.Counts.{cases, cases_eq, both, agree, count_moved, count_only, all_at, all_put}

module _ {P R : Type 0} (csd : P → ℕ) (rec : P → R) where
  pub count_lone : (a : ℕ) (p : R → Bool) (at : ℕ → P) (n : ℕ)
      → count p (lone csd rec a at n) ≡ count_below (λ k. eqb (csd (at k)) a && p (rec (at k))) n
  unfolding count lone count_below
  count_lone a p at zero = refl
  count_lone a p at (suc n) =
      cases (eqb (csd (at n)) a) (λ e. rw (e, count_lone a p at n)) (λ e. rw e (omega (arith, count_lone a p at n)))

  -- Two tables that agree at the places of a have one lone list.
  pub lone_same : (a : ℕ) (at at' : ℕ → P) (n : ℕ) → ((k : ℕ) → k < n → at' k ≡ at k)
      → lone csd rec a at' n ≡ lone csd rec a at n
  unfolding lone
  lone_same a at at' zero h = refl
  lone_same a at at' (suc n) h = rw (h n (omega arith), lone_same a at at' n (λ k l. h k (omega arith)))

  -- A store at one place: what is counted moves by what stood there and what stands there now.
  module _ (at at' : ℕ → P) (i n : ℕ) (place : i < n) (others : (k : ℕ) → k < n → (k ≡ i → ⊥) → at' k ≡ at k) where
    pub lone_moved : (a : ℕ) (p : R → Bool)
        → count p (lone csd rec a at' n) + bit (eqb (csd (at i)) a && p (rec (at i)))
        ≡ count p (lone csd rec a at n) + bit (eqb (csd (at' i)) a && p (rec (at' i)))
    lone_moved a p =
        rw (count_lone a p at' n, count_lone a p at n)
        (count_moved (λ k. eqb (csd (at k)) a && p (rec (at k))) (λ k. eqb (csd (at' k)) a && p (rec (at' k))) i n place
        (λ k l h. ap (λ r. eqb (csd r) a && p (rec r)) (others k l h)))

  -- every record of a's is as p asks, exactly if the places of a are
  pub every_put : (a : ℕ) (p : R → Bool) (at : ℕ → P) (n : ℕ)
      → ((k : ℕ) → k < n → csd (at k) ≡ a → p (rec (at k)) ≡ true) → every p (lone csd rec a at n) ≡ true
  unfolding every lone
  every_put a p at zero h = refl
  every_put a p at (suc n) h =
      let r = every_put a p at n (λ k l. h k (omega arith)) in
      cases (eqb (csd (at n)) a)
      (λ e. rw (e, h n (omega arith) (eqb-true (csd (at n)) a e), r))
      (λ e. rw (e, r))

  pub every_at : (a : ℕ) (p : R → Bool) (at : ℕ → P) (n : ℕ) → every p (lone csd rec a at n) ≡ true → (k : ℕ) → k < n
      → csd (at k) ≡ a → p (rec (at k)) ≡ true
  unfolding every lone
  every_at a p at zero e k l s = absurd (omega arith)
  every_at a p at (suc n) e k l s =
      cases (eqb (csd (at n)) a)
      (λ t.
      let b = both (p (rec (at n))) (every p (lone csd rec a at n)) (rw t at e) in
      cases_eq k n (λ z. rw z b.0) (λ z. every_at a p at n b.1 k (omega arith) s))
      (λ t.
      cases_eq k n (λ z. absurd (eqb_no (csd (at n)) a t (ap (λ x. csd (at x)) (sym z) ∙ s)))
      (λ z. every_at a p at n (rw t at e) k (omega arith) s))
    where
      eqb_no : (x y : ℕ) → eqb x y ≡ false → x ≡ y → ⊥
      eqb_no x y t u = let z : ◌≡◌ {A = Bool} true false = sym (eq-eqb x y u) ∙ t in absurd_bool z
        where
          absurd_bool : true ≡ false → ⊥
          absurd_bool z = let w : ◌≡◌ {A = ℕ} 1 0 = ap bit z in omega arith

or_left : (a b c : Bool) → (a || (b && c)) ≡ true → (a || b) ≡ true
or_left true b c e = refl
or_left false b c e = (both b c e).0

or_right : (a b c : Bool) → a ≡ false → (a || (b && c)) ≡ true → c ≡ true
or_right true b c z e = absurd (omega (arith, ap bit z))
or_right false b c z e = (both b c e).1

-- Soundness of a table, place by place, is that each place is free or a depository's, and each depository's lone list
-- is sound.
module _ {P R : Type 0} (csd : P → ℕ) (rec : P → R) (free : P → Bool) (nobody : (r : P) → free r ≡ true → csd r ≡ 0) (m : ℕ) (f : ℕ → R → Bool) (at : ℕ → P) (n : ℕ) where
  -- of a depository, 1 to m
  unfoldable pub owned : ℕ → Bool
  owned k = leb 1 (csd (at k)) && leb (csd (at k)) m

  unfoldable pub held : ℕ → Bool
  held a = every (f (a + 1)) (lone csd rec (a + 1) at n)

  unfoldable pub right : ℕ → Bool
  right k = f (csd (at k)) (rec (at k))

  taken : (k : ℕ) → 1 ≤ csd (at k) → free (at k) ≡ false
  taken k l = cases (free (at k)) (λ z. absurd (omega (arith, nobody (at k) z))) (λ z. z)

  lone_of_each : all_below (λ k. free (at k) || (owned k && right k)) n ≡ true → (a : ℕ) → a < m → held a ≡ true
  unfolding held right
  lone_of_each e a l =
      every_put csd rec (a + 1) (f (a + 1)) at n
      (λ k u s.
      ap (λ c. f c (rec (at k))) (sym s)
      ∙ or_right (free (at k)) (owned k) (right k) (taken k (omega (arith, s))) (all_at (λ k. free (at k) || (owned k && right k)) n e k u))

  each_of_lone : all_below (λ k. free (at k) || owned k) n ≡ true → all_below held m ≡ true → (k : ℕ) → k < n
      → (free (at k) || (owned k && right k)) ≡ true
  unfolding owned held right
  each_of_lone e h k l =
      cases (free (at k)) (λ z. rw z)
      (λ z.
      let r : owned k ≡ true = rw z at (all_at (λ k. free (at k) || owned k) n e k l) in
      let b = both (leb 1 (csd (at k))) (leb (csd (at k)) m) r in
      let lo = leb-true 1 (csd (at k)) b.0 in
      let hi = leb-true (csd (at k)) m b.1 in
      let s : csd (at k) - 1 + 1 ≡ csd (at k) = omega arith in
      let x = every_at csd rec (csd (at k) - 1 + 1) (f (csd (at k) - 1 + 1)) at n (all_at held m h (csd (at k) - 1) (omega arith)) k l (sym s) in
      rw (z, b.0, b.1) (ap (λ c. f c (rec (at k))) (sym s) ∙ x))

  pub each_lone : all_below (λ k. free (at k) || (owned k && right k)) n
      ≡ (all_below (λ k. free (at k) || owned k) n && all_below held m)
  each_lone =
      agree (all_below (λ k. free (at k) || (owned k && right k)) n) (all_below (λ k. free (at k) || owned k) n && all_below held m)
      (λ e.
      rw (
        all_put (λ k. free (at k) || owned k) n (λ k l. or_left (free (at k)) (owned k) (right k) (all_at (λ k. free (at k) || (owned k && right k)) n e k l)),
        all_put held m (lone_of_each e),
      ))
      (λ e.
      let b = both (all_below (λ k. free (at k) || owned k) n) (all_below held m) e in
      all_put (λ k. free (at k) || (owned k && right k)) n (each_of_lone b.0 b.1))

-- ---- Edits where a record stands. The places keep their order, so the lone lists are EQUAL to the edited ones, not
-- only the same up to order.

not_eqb : (x y : ℕ) → (x ≡ y → ⊥) → eqb x y ≡ false
not_eqb x y h = cases (eqb x y) (λ e. absurd (h (eqb-true x y e))) (λ e. e)

-- Where only one record of a's passes the test, its place is the only one.
module _ {P R : Type 0} (csd : P → ℕ) (rec : P → R) (c : ℕ) (t : R → Bool) (at : ℕ → P) (i n : ℕ) (place : i < n) (own : csd (at i) ≡ c) (hit : t (rec (at i)) ≡ true) (once : count t (lone csd rec c at n) ≤ 1) where
  pub only_place : (k : ℕ) → k < n → csd (at k) ≡ c → t (rec (at k)) ≡ true → k ≡ i
  only_place k l o h =
      count_only (λ k. eqb (csd (at k)) c && t (rec (at k))) n (rw count_lone at once) k i l place
      (rw (eq-eqb (csd (at k)) c o) h) (rw (eq-eqb (csd (at i)) c own) hit)

  miss : (k : ℕ) → k < n → (k ≡ i → ⊥) → csd (at k) ≡ c → t (rec (at k)) ≡ false
  miss k l d o = cases (t (rec (at k))) (λ e. absurd (d (only_place k l o e))) (λ e. e)

  -- what the other depositories hold, where one place changes hands to none of them
  module _ (at' : ℕ → P) (others : (k : ℕ) → k < n → (k ≡ i → ⊥) → at' k ≡ at k) where
    pub lone_others : (a : ℕ) → (c ≡ a → ⊥) → (csd (at' i) ≡ a → ⊥) → (m : ℕ) → m ≤ n
        → lone csd rec a at' m ≡ lone csd rec a at m
    unfolding lone
    lone_others a d z zero l = refl
    lone_others a d z (suc m) l =
        let r = lone_others a d z m (omega arith) in
        cases_eq m i
        (λ s. rw (s, not_eqb (csd (at' i)) a z, not_eqb (csd (at i)) a (λ e. d (sym own ∙ e))) (rw s at r))
        (λ s. rw (others m (omega arith) s, r))

    -- a record taken out: its place is nobody's
    pub lone_removed : (csd (at' i) ≡ c → ⊥) → (m : ℕ) → m ≤ n
        → lone csd rec c at' m ≡ keep (λ x. not (t x)) (lone csd rec c at m)
    unfolding lone keep
    lone_removed z zero l = refl
    lone_removed z (suc m) l =
        let r = lone_removed z m (omega arith) in
        cases_eq m i
        (λ s. rw (s, not_eqb (csd (at' i)) c z, eq-eqb (csd (at i)) c own, hit) (rw s at r))
        (λ s.
        cases (eqb (csd (at m)) c)
        (λ e. rw (others m (omega arith) s, e, miss m (omega arith) s (eqb-true (csd (at m)) c e), r))
        (λ e. rw (others m (omega arith) s, e, r)))

    -- a record changed: its place stays the depository's
    pub lone_changed : (g : R → R) → csd (at' i) ≡ c → rec (at' i) ≡ g (rec (at i)) → (m : ℕ) → m ≤ n
        → lone csd rec c at' m ≡ alter (λ x. cond (t x) (g x) x) (lone csd rec c at m)
    unfolding lone alter
    lone_changed g z f zero l = refl
    lone_changed g z f (suc m) l =
        let r = lone_changed g z f m (omega arith) in
        cases_eq m i
        (λ s. rw (s, eq-eqb (csd (at' i)) c z, eq-eqb (csd (at i)) c own, hit, f) (ap (λ l. g (rec (at i)) ∷ l) (rw s at r)))
        (λ s.
        cases (eqb (csd (at m)) c)
        (λ e. rw (others m (omega arith) s, e, miss m (omega arith) s (eqb-true (csd (at m)) c e), r))
        (λ e. rw (others m (omega arith) s, e, r)))

-- Every place altered as its record is: g done to each place is h done to each record of a's.
pub lone_altered : {P R : Type 0} (csd : P → ℕ) (rec : P → R) (a : ℕ) (h : R → R) (at at' : ℕ → P) (n : ℕ)
    → ((k : ℕ) → k < n → csd (at' k) ≡ csd (at k)) → ((k : ℕ) → k < n → csd (at k) ≡ a → rec (at' k) ≡ h (rec (at k)))
    → lone csd rec a at' n ≡ alter h (lone csd rec a at n)
unfolding lone alter
lone_altered csd rec a h at at' zero o f = refl
lone_altered csd rec a h at at' (suc n) o f =
    let r = lone_altered csd rec a h at at' n (λ k l. o k (omega arith)) (λ k l. f k (omega arith)) in
    cases (eqb (csd (at n)) a)
    (λ e. rw (o n (omega arith), e, f n (omega arith) (eqb-true (csd (at n)) a e), r))
    (λ e. rw (o n (omega arith), e, r))

-- ---- A store at one place, for a depository that neither lost nor got it, and for the one that got it.
module _ {P R : Type 0} (csd : P → ℕ) (rec : P → R) (a : ℕ) (at at' : ℕ → P) (i n : ℕ) (place : i < n) (others : (k : ℕ) → k < n → (k ≡ i → ⊥) → at' k ≡ at k) (lost : csd (at i) ≡ a → ⊥) where
  pub lone_still : (csd (at' i) ≡ a → ⊥) → lone csd rec a at' n ≡ lone csd rec a at n
  unfolding lone
  lone_still z = upto n (omega arith)
    where
      upto : (m : ℕ) → m ≤ n → lone csd rec a at' m ≡ lone csd rec a at m
      upto zero l = refl
      upto (suc m) l =
          let r = upto m (omega arith) in
          cases_eq m i
          (λ s. rw (s, not_eqb (csd (at' i)) a z, not_eqb (csd (at i)) a lost) (rw s at r))
          (λ s. rw (others m (omega arith) s, r))

  pub lone_added : csd (at' i) ≡ a → Same (lone csd rec a at' n) (rec (at' i) ∷ lone csd rec a at n)
  unfolding count
  lone_added z p =
      omega (
        arith,
        lone_moved csd rec at at' i n place others a p,
        ap (λ x. bit (x && p (rec (at i)))) (not_eqb (csd (at i)) a lost),
        ap (λ x. bit (x && p (rec (at' i)))) (eq-eqb (csd (at' i)) a z),
      )
