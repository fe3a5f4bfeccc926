-- What the functions over one place, a block of places and a whole table leave to show, for any kind.
use Rattle.std.proofs.Common.{◌≡◌, ℕ, ◌+◌, ◌*◌, ◌/◌, ◌<◌, ◌≤◌, Bool, true, false, not, ltb, List, get_or, set, sym, refl, ap, ◌∙◌, arith, ltb-true, lt-ltb, le-leb}
use Rattle.std.specs.Prelude.{Option, Some, None}
use mathlib.Core.Bool.{and-false, false≢true}
use borrow.Author.Tests.{lt-leb, not-true, not-false}
use Rattle.tables.specs.Bytes.{one, number}
use Rattle.tables.specs.Below.{any_below}
use Rattle.tables.proofs.Counts.{cases}
use Rattle.places.specs.Layout.{book_size}
use Rattle.chains.specs.Sizes.{buckets, most_places, block_places}
use Rattle.chains.specs.Blocks.{zero_from, Wide, FreeFirst}
use Rattle.chains.specs.declared.Seen.{Seen}
use Rattle.chains.specs.Chains.{Tallied, Entered, Ready, Passed, Going, Block, AllPassed, NoneSeen}
use Rattle.chains.proofs.Chaining.{chained_counted}
use Rattle.chains.proofs.ChainPassing.{passed_free, passed_over_lem, passed_unfit, passed_held, passed_entered, going_none, going_on, block_fails, blocks_on, blocks_fail, going_end}
use Rattle.chains.proofs.Blocking.{going_over}
use Rattle.soundness.specs.Kind.{Kind}
use Rattle.soundness.specs.Kinds.{table_of, address_of, csd_at, free_at, bucket_at, fit_at, lone_at, csd_of, free_of, bucket_of, same_of, fit_of, right_of, ChainedOf}
use Rattle.soundness.proofs.Options.{some_none, some_same}
use Rattle.soundness.proofs.KindFacts.{kind_few, kind_wide, kind_blocks, kind_whole, kind_block, kind_among, kind_nobody, kind_inside, kind_zero}

-- ---- `counted`

pub count_none : (c q : ℕ) (s : Seen) → 8 < c → Tallied c q false s s
count_none c q s l = record { answered = rw (lt-leb c 8 l); stored = λ y. absurd (false≢true y) }

pub count_full : (c q : ℕ) (s : Seen) → q ≤ get_or s.counts c 0 → Tallied c q false s s
count_full c q s l = record {
  answered = rw (full (ltb (get_or s.counts c 0) q) refl, and-false);
  stored = λ y. absurd (false≢true y);
}
  where
    full : (t : Bool) → ltb (get_or s.counts c 0) q ≡ t → ltb (get_or s.counts c 0) q ≡ false
    full true e = absurd (omega (arith, ltb-true (get_or s.counts c 0) q e))
    full false e = e

pub count_one : (c q : ℕ) (s : Seen) → get_or s.counts c 0 < q → c ≤ 8
    → Tallied c q true s (record { counts = set s.counts c (get_or s.counts c 0 + 1); head = s.head; next = s.next })
count_one c q s l h = record {
  answered = rw (le-leb c 8 h, lt-ltb (get_or s.counts c 0) q l);
  stored = λ y. refl;
}

-- ---- `pass`

pub first_inside : (kind : Kind) (at : ℕ) → at + (table_of kind).width ≤ book_size → at + (0 + 1) ≤ book_size
first_inside kind at l = omega (arith, (kind_wide kind).least)

module _ (b : List ℕ) (kind : Kind) (i at c : ℕ) (ea : at ≡ address_of kind i) (ec : c ≡ number one b at 0) where
  csd_here : c ≡ csd_of b kind i
  unfolding csd_at csd_of
  csd_here = ec ∙ ap (λ x. number one b x 0) ea

  pub used_of : (c ≡ 0 → ⊥) → csd_of b kind i ≡ 0 → ⊥
  used_of u z = u (csd_here ∙ z)

  pub used_at : (c ≡ 0 → ⊥) → csd_at b at ≡ 0 → ⊥
  unfolding csd_at
  used_at u z = u (ec ∙ z)

  -- what `lone` returns

  module _ (o : Option ℕ) (eo : o ≡ lone_at b kind at) where
    lone_fit : (k : ℕ) → o ≡ Some k → (fit_of b kind i ≡ true) × (k ≡ bucket_of b kind i)
    unfolding lone_at fit_of bucket_of
    lone_fit k e =
        let f : fit_at b kind at ≡ true = cases (fit_at b kind at) (λ f. f) (λ f. absurd (some_none (sym e ∙ rw f at eo))) in
        let g : (fit_at b kind at ≡ true) × (k ≡ bucket_at b kind at) = (f, some_same (sym e ∙ rw f at eo)) in
        rw ea at g

    lone_unfit : o ≡ None → fit_of b kind i ≡ false
    unfolding lone_at fit_of
    lone_unfit e =
        let g : fit_at b kind at ≡ false = cases (fit_at b kind at) (λ f. absurd (some_none (sym (rw f at eo) ∙ e))) (λ f. f) in
        rw ea at g

    pub lone_bucket : (k : ℕ) → o ≡ Some k → k ≡ bucket_of b kind i
    lone_bucket k e = (lone_fit k e).1

    pub lone_inside : (k : ℕ) → o ≡ Some k → k + 1 ≤ buckets
    unfolding bucket_of
    lone_inside k e = omega (arith, (lone_fit k e).1, kind_inside b kind (address_of kind i))

  module _ (s : Seen) (m : Ready (csd_of b kind) (bucket_of b kind) (table_of kind).places i s) where
    abbrev Here : Bool → Seen → Type 0
    Here = Passed (csd_of b kind) (bucket_of b kind) (right_of b kind) i

    pub entry_inside : i + 1 ≤ most_places
    entry_inside = omega (arith, m.place, kind_few kind)

    pub pass_free : (r : Bool) → r ≡ free_at b kind at → c ≡ 0 → Here r s
    unfolding free_of right_of
    pass_free r e z =
        passed_free (csd_of b kind) (bucket_of b kind) (table_of kind).places (free_of b kind) (fit_of b kind) (same_of b kind) (table_of kind).quota i r s m
        (sym csd_here ∙ z) (e ∙ ap (free_at b kind) ea)

    module _ (q : ℕ) (eq : q ≡ (table_of kind).quota) (x : Bool) (s₁ : Seen) (n : Tallied c q x s s₁) (u : c ≡ 0 → ⊥) where
      nobody : (k : ℕ) → free_of b kind k ≡ true → csd_of b kind k ≡ 0
      unfolding free_of csd_of
      nobody k e = kind_nobody b kind (address_of kind k) e

      own : Tallied c (table_of kind).quota x s s₁
      own = rw eq at n

      pub pass_over : not x ≡ true → Here false s₁
      unfolding right_of
      pass_over f =
          passed_over_lem (csd_of b kind) (bucket_of b kind) (table_of kind).places (free_of b kind) (fit_of b kind) (same_of b kind) (table_of kind).quota
          nobody i c x s s₁ m (used_of u) csd_here own (not-true x f)

      pub pass_chained : not x ≡ false → ChainedOf b kind s₁ i
      pass_chained f = chained_counted (csd_of b kind) (bucket_of b kind) c q x s s₁ i n (not-false x f) m.chained

      pub pass_unfit : (o : Option ℕ) → o ≡ lone_at b kind at → o ≡ None → Here false s₁
      unfolding right_of
      pass_unfit o e f =
          passed_unfit (csd_of b kind) (bucket_of b kind) (table_of kind).places (free_of b kind) (fit_of b kind) (same_of b kind) (table_of kind).quota
          nobody i c x s s₁ m (used_of u) csd_here own (lone_unfit o e f)

      pub pass_held : (h : Bool) → h ≡ any_below (same_of b kind i) i → h ≡ true → Here false s₁
      unfolding right_of
      pass_held h e f =
          passed_held (csd_of b kind) (bucket_of b kind) (table_of kind).places (free_of b kind) (fit_of b kind) (same_of b kind) (table_of kind).quota
          nobody i c x s s₁ m (used_of u) csd_here own (sym e ∙ f)

      pub pass_on : (k : ℕ) (h : Bool) (o : Option ℕ) (s' : Seen) → Entered k i s₁ s'
          → h ≡ any_below (same_of b kind i) i → h ≡ false → o ≡ lone_at b kind at → o ≡ Some k → not x ≡ false
          → Here true s'
      unfolding right_of
      pass_on k h o s' n' eh f eo ek y =
          passed_entered (csd_of b kind) (bucket_of b kind) (table_of kind).places (free_of b kind) (fit_of b kind) (same_of b kind) (table_of kind).quota
          nobody i c x s s₁ m (used_of u) csd_here own k s' (not-false x y) (lone_fit o eo k ek).0 (sym eh ∙ f)
          (lone_bucket o eo k ek) (omega (arith, lone_inside o eo k ek)) n' (kind_few kind)

-- ---- blocks

module _ (b : List ℕ) (kind : Kind) (from : ℕ) (l : from + block_places ≤ (table_of kind).places) where
  pub block_within : (at w : ℕ) → w ≡ (table_of kind).width → at ≡ address_of kind from → at + block_places * w ≤ book_size
  block_within at w e f = rw (e, f) (kind_block kind from l)

  pub block_wide : (w : ℕ) → w ≡ (table_of kind).width → Wide w
  block_wide w e = rw e (kind_wide kind)

  pub block_place : from < (table_of kind).places
  block_place = omega (arith, l)

  pub block_ready : (i : ℕ) (s : Seen)
      → Going (csd_of b kind) (bucket_of b kind) (table_of kind).places (right_of b kind) i s → i < from + block_places
      → Ready (csd_of b kind) (bucket_of b kind) (table_of kind).places i s
  block_ready i s g u = record { place = omega (arith, l); counted = g.counted; chained = g.chained }

  pub block_on : (i : ℕ) (r : Bool) (s s' : Seen) → Passed (csd_of b kind) (bucket_of b kind) (right_of b kind) i r s'
      → not r ≡ false → i < from + block_places
      → Going (csd_of b kind) (bucket_of b kind) (table_of kind).places (right_of b kind) i s
      → Going (csd_of b kind) (bucket_of b kind) (table_of kind).places (right_of b kind) (i + 1) s'
  block_on i r s s' m f u g =
      going_on (csd_of b kind) (bucket_of b kind) (table_of kind).places (right_of b kind) i r s s' m f (omega (arith, l)) g

  pub block_failed : (i : ℕ) (r : Bool) (s : Seen) → Passed (csd_of b kind) (bucket_of b kind) (right_of b kind) i r s
      → not r ≡ true → i < from + block_places
      → Block (csd_of b kind) (bucket_of b kind) (table_of kind).places (right_of b kind) from false s
  block_failed i r s m f u =
      block_fails (csd_of b kind) (bucket_of b kind) (table_of kind).places (right_of b kind) from i r s m f u l

  -- The places at a block's start whose bytes are all 0 are free.
  pub block_first : (at w r : ℕ) (s : Seen) → FreeFirst b at w r → w ≡ (table_of kind).width → at ≡ address_of kind from
      → Going (csd_of b kind) (bucket_of b kind) (table_of kind).places (right_of b kind) from s
      → Going (csd_of b kind) (bucket_of b kind) (table_of kind).places (right_of b kind) (from + r) s
  unfolding csd_of free_of right_of
  block_first at w r s n ew ea g =
      let z : zero_from b (address_of kind from) (r * (table_of kind).width) ≡ true = rw (ea, ew) at n.free in
      going_over (csd_of b kind) (bucket_of b kind) (table_of kind).places (free_of b kind) (fit_of b kind) (same_of b kind) (table_of kind).quota
      (λ k y. kind_nobody b kind (address_of kind k) y) s from r g (omega (arith, n.few, l))
      (λ k low high.
      let a = kind_among kind from k r low high in
      kind_zero b kind (address_of kind from) (r * (table_of kind).width) (address_of kind k) z a.0 a.1)

-- ---- `all`

module _ (b : List ℕ) (kind : Kind) where
  -- the blocks before this one are passed
  abbrev pub AllTo : ℕ → Seen → Type 0
  AllTo k s = Going (csd_of b kind) (bucket_of b kind) (table_of kind).places (right_of b kind) (k * block_places) s

  pub all_start : (s : Seen) → NoneSeen s → AllTo 0 s
  all_start s u = going_none (csd_of b kind) (bucket_of b kind) (table_of kind).places (right_of b kind) s u

  pub all_block : (k p : ℕ) → p ≡ (table_of kind).places → k < p / block_places
      → k * block_places + block_places ≤ (table_of kind).places
  all_block k p e l = kind_blocks kind (k * block_places) (omega (arith, e, l)) (omega arith)

  pub all_on : (k : ℕ) (r : Bool) (s : Seen)
      → Block (csd_of b kind) (bucket_of b kind) (table_of kind).places (right_of b kind) (k * block_places) r s
      → not r ≡ false → AllTo (k + 1) s
  all_on k r s m f =
      let e : (k + 1) * block_places ≡ k * block_places + block_places = omega arith in
      rw e (blocks_on (csd_of b kind) (bucket_of b kind) (table_of kind).places (right_of b kind) (k * block_places) r s m f)

  pub all_fail : (k : ℕ) (r : Bool) (s : Seen)
      → Block (csd_of b kind) (bucket_of b kind) (table_of kind).places (right_of b kind) (k * block_places) r s
      → not r ≡ true → AllPassed (csd_of b kind) (bucket_of b kind) (table_of kind).places (right_of b kind) false s
  all_fail k r s m f =
      blocks_fail (csd_of b kind) (bucket_of b kind) (table_of kind).places (right_of b kind) (k * block_places) r s m f

  pub all_end : (k p : ℕ) (s : Seen) → p ≡ (table_of kind).places → AllTo k s → p / block_places ≤ k
      → AllPassed (csd_of b kind) (bucket_of b kind) (table_of kind).places (right_of b kind) true s
  all_end k p s e g l =
      going_end (csd_of b kind) (bucket_of b kind) (table_of kind).places (right_of b kind) (k * block_places) s g
      (omega (arith, e, l, kind_whole kind))
