-- Laws of chains over any table, bucket and test: before the first place, one place more, and that a chain has a place
-- as asked exactly if one of the places before has.
use Prim.Native.Nat.{ℕ, zero, suc, ◌+◌, ◌-◌, ◌≤◌, ◌<◌}
use mathlib.Core.Path.{◌≡◌, refl, ap, sym, ◌∙◌}
use mathlib.Core.Bool.{Bool, true, false, ◌||◌, not, cond, false≢true}
use mathlib.Core.List.{List}
use native.Mathlib.Numerals.{add-one}
use native.Mathlib.Omega.{arith}
use lib.Dec.{eqb}
use lib.ListN.{get_or, set, length-set}
use lib.Seq.{get_or-set_same, get_or-set_other}
use borrow.Author.Tests.{eqb-true, eq-eqb, ne_eqb}
use Rattle.tables.specs.Count.{count_below}
use Rattle.tables.specs.Below.{any_below}
use Rattle.tables.specs.Keyed.{Blank}
use Rattle.tables.proofs.Counts.{cases, cases_eq, both, count_more}
use Rattle.chains.specs.Sizes.{owners, buckets, most_places}
use Rattle.chains.specs.declared.Seen.{Seen}
use Rattle.chains.specs.Chains.{last_below, in_bucket, Counted, Chained, NoneSeen, Tallied, Entered, Walking}

last_more : (p : ℕ → Bool) (n : ℕ) → last_below p (n + 1) ≡ cond (p n) (n + 1) (last_below p n)
unfolding last_below
last_more p n = rw add-one

last_few : (p : ℕ → Bool) (n : ℕ) → last_below p n ≤ n
unfolding last_below
last_few p zero = omega arith
last_few p (suc n) = cases (p n) (λ e. rw e (omega arith)) (λ e. rw e (omega (arith, last_few p n)))

last_here : (p : ℕ → Bool) (n : ℕ) → (last_below p n ≡ 0 → ⊥) → p (last_below p n - 1) ≡ true
unfolding last_below
last_here p zero h = absurd (h refl)
last_here p (suc n) h =
    let d : suc n - 1 ≡ n = omega arith in
    cases (p n) (λ e. rw (e, d) e) (λ e. rw e (last_here p n (λ z. h (rw e z))))

-- No place from the last one on is as asked, where only places of p are asked for.
last_any : (p q : ℕ → Bool) → ((j : ℕ) → q j ≡ true → p j ≡ true) → (n : ℕ)
    → any_below q (last_below p n) ≡ any_below q n
unfolding last_below any_below
last_any p q only zero = refl
last_any p q only (suc n) = cases (p n) (λ e. rw e) (λ e. rw (e, missed n e) (last_any p q only n))
  where
    missed : (n : ℕ) → p n ≡ false → q n ≡ false
    missed n e = cases (q n) (λ t. absurd (false≢true (sym e ∙ only n t))) (λ t. t)

any_on : (p : ℕ → Bool) (j : ℕ) → (j ≡ 0 → ⊥) → any_below p j ≡ (p (j - 1) || any_below p (j - 1))
unfolding any_below
any_on p zero h = absurd (h refl)
any_on p (suc j) h = let d : suc j - 1 ≡ j = omega arith in rw d

-- ---- walking the chain of a bucket

module _ (csd bucket : ℕ → ℕ) (k : ℕ) (p : ℕ → Bool) (i : ℕ) where
  walk_last : (n j : ℕ) → ((x : ℕ) → p x ≡ true → in_bucket csd bucket k x ≡ true)
      → j ≡ last_below (in_bucket csd bucket k) n → n ≤ i → any_below p n ≡ any_below p i → Walking csd bucket k p i j
  walk_last n j only e l a = record {
    only = only;
    few = omega (arith, last_few (in_bucket csd bucket k) n);
    here = λ h. rw e (last_here (in_bucket csd bucket k) n (λ z. h (e ∙ z)));
    left = rw e (last_any (in_bucket csd bucket k) p only n ∙ a);
  }

  pub walk_start : (s : Seen) → ((x : ℕ) → p x ≡ true → in_bucket csd bucket k x ≡ true)
      → Chained csd bucket s i → k < buckets → Walking csd bucket k p i (get_or s.head k 0)
  walk_start s only m l = walk_last i (get_or s.head k 0) only (m.starts k l) (omega arith) refl

  -- what follows place j - 1
  walk_next : (j : ℕ) (s : Seen) → Chained csd bucket s i → Walking csd bucket k p i j
      → (j ≡ 0 → ⊥) → get_or s.next (j - 1) 0 ≡ last_below (in_bucket csd bucket k) (j - 1)
  walk_next j s m w h =
      let t = both (not (eqb (csd (j - 1)) 0)) (eqb (bucket (j - 1)) k) (w.here h) in
      let u : 1 ≤ j = cases_eq j 0 (λ z. absurd (h z)) (λ z. omega (arith, z)) in
      m.follows (j - 1) (omega (arith, w.few)) (λ z. false≢true (ap (λ x. not (eqb x 0)) (sym z) ∙ t.0))
      ∙ ap (λ x. last_below (in_bucket csd bucket x) (j - 1)) (eqb-true (bucket (j - 1)) k t.1)

  pub walk_on : (j : ℕ) (r : Bool) (s : Seen) → Chained csd bucket s i → Walking csd bucket k p i j
      → (j ≡ 0 → ⊥) → r ≡ p (j - 1) → r ≡ false → Walking csd bucket k p i (get_or s.next (j - 1) 0)
  walk_on j r s m w h e f =
      walk_last (j - 1) (get_or s.next (j - 1) 0) w.only (walk_next j s m w h) (omega (arith, w.few))
      (sym (any_on p j h ∙ ap (λ x. x || any_below p (j - 1)) (sym e ∙ f)) ∙ w.left)

  pub walk_less : (j : ℕ) (s : Seen) → Chained csd bucket s i → Walking csd bucket k p i j
      → (j ≡ 0 → ⊥) → get_or s.next (j - 1) 0 < j
  walk_less j s m w h =
      let u : 1 ≤ j = cases_eq j 0 (λ z. absurd (h z)) (λ z. omega (arith, z)) in
      omega (arith, walk_next j s m w h, last_few (in_bucket csd bucket k) (j - 1))

  pub walk_end : (j : ℕ) → Walking csd bucket k p i j → j ≡ 0 → false ≡ any_below p i
  unfolding any_below
  walk_end j w e = rw e at w.left

  pub walk_found : (j : ℕ) (r : Bool) → Walking csd bucket k p i j → (j ≡ 0 → ⊥) → r ≡ p (j - 1) → r ≡ true
      → true ≡ any_below p i
  walk_found j r w h e f = sym (any_on p j h ∙ ap (λ x. x || any_below p (j - 1)) (sym e ∙ f)) ∙ w.left

-- ---- one place more

module _ (csd bucket : ℕ → ℕ) where
  pub chained_none : (s : Seen) → NoneSeen s → Chained csd bucket s 0
  unfolding last_below
  chained_none s u = record {
    heads = u.heads.long;
    nexts = u.nexts.long;
    starts = λ k l. u.heads.each k l;
    follows = λ j l h. absurd (omega arith);
  }

  -- A free place is in no chain.
  pub chained_free : (s : Seen) (i : ℕ) → Chained csd bucket s i → csd i ≡ 0
      → Chained csd bucket s (i + 1)
  chained_free s i m e = record {
    heads = m.heads;
    nexts = m.nexts;
    starts = λ k l. rw (last_more, e) (m.starts k l);
    follows = λ j l h. cases_eq j i (λ z. absurd (h (ap csd z ∙ e))) (λ z. m.follows j (omega arith) h);
  }

  pub chained_more : (s s' : Seen) (k i : ℕ) → Chained csd bucket s i
      → Entered k i s s' → i < most_places → (csd i ≡ 0 → ⊥) → k ≡ bucket i → k < buckets
      → Chained csd bucket s' (i + 1)
  chained_more s s' k i m e l u z v = record {
    heads = rw (e.headed, length-set) m.heads;
    nexts = rw (e.linked, length-set) m.nexts;
    starts = λ j h.
        cases_eq j k
        (λ f. rw (e.headed, last_more, f, ne_eqb (csd i) 0 u, eq-eqb (bucket i) k (sym z)) (get_or-set_same s.head k (i + 1) 0 (omega (arith, m.heads))))
        (λ f. rw (e.headed, last_more, ne_eqb (csd i) 0 u, ne_eqb (bucket i) j (λ g. f (sym (z ∙ g)))) (get_or-set_other s.head k j (i + 1) 0 f ∙ m.starts j h));
    follows = λ j h f.
        cases_eq j i
        (λ g. rw (e.linked, g) (get_or-set_same s.next i (get_or s.head k 0) 0 (omega (arith, m.nexts)) ∙ m.starts k v ∙ ap (λ x. last_below (in_bucket csd bucket x) i) z))
        (λ g. rw e.linked (get_or-set_other s.next i j (get_or s.head k 0) 0 g ∙ m.follows j (omega arith) f));
  }

  -- counting leaves the chains
  pub chained_counted : (c q : ℕ) (x : Bool) (s s' : Seen) (i : ℕ) → Tallied c q x s s' → x ≡ true
      → Chained csd bucket s i → Chained csd bucket s' i
  chained_counted c q x s s' i n y m = rw (n.stored y) (record { heads = m.heads; nexts = m.nexts; starts = m.starts; follows = m.follows })

-- ---- counts

pub counted_none : (csd : ℕ → ℕ) (counts : List ℕ) → Blank owners counts → Counted csd counts 0
unfolding count_below
counted_none csd counts u = record { long = u.long; each = λ a l h. u.each a (omega arith) }

pub counted_free : (csd : ℕ → ℕ) (counts : List ℕ) (i : ℕ) → Counted csd counts i → csd i ≡ 0
    → Counted csd counts (i + 1)
counted_free csd counts i m e = record {
  long = m.long;
  each = λ a l h. rw (count_more, ne_eqb (csd i) a (λ z. omega (arith, e))) (omega (arith, m.each a l h));
}

pub counted_more : (csd : ℕ → ℕ) (counts counts' : List ℕ) (c i : ℕ) → Counted csd counts i
    → counts' ≡ set counts c (get_or counts c 0 + 1) → c ≡ csd i → c ≤ 8 → Counted csd counts' (i + 1)
counted_more csd counts counts' c i m e s u = record {
  long = rw (e, length-set) m.long;
  each = λ a h g.
      cases_eq a c
      (λ z. rw (e, z, count_more, eq-eqb (csd i) c (sym s)) (get_or-set_same counts c (get_or counts c 0 + 1) 0 (omega (arith, m.long)) ∙ omega (arith, m.each c (omega arith) u)))
      (λ z. rw (e, count_more, ne_eqb (csd i) a (λ f. z (sym f ∙ sym s))) (get_or-set_other counts c a (get_or counts c 0 + 1) 0 z ∙ omega (arith, m.each a h g)));
}
