-- What a store at one place leaves of the depositories' lists, for any table, and which place is found in it.
use Prim.Native.Nat.{ℕ, ◌*◌, ◌≤◌, ◌<◌}
use mathlib.Core.Path.{◌≡◌, ap, sym, ◌∙◌}
use mathlib.Core.Bool.{Bool, true}
use mathlib.Core.List.{List, [], ◌∷◌}
use native.Mathlib.Omega.{arith}
use lib.Dec.{lit<}
use lib.ListN.{length, replicate}
use Rattle.tables.specs.Bytes.{Width, one, two, three, four, Hold, zeros}
use Rattle.tables.specs.Count.{count, without, change, Same}
use Rattle.tables.specs.Table.{Table, address, end, vacant, list_of, place_of, Lies, Fits}
use Rattle.tables.proofs.Lone.{lone_removed, lone_changed, lone_still, lone_added}
use Rattle.tables.proofs.Found as F
use Rattle.tables.proofs.Zeros.{numbers_zeros, lone_none}
use Rattle.tables.proofs.Stored.{back, other}

zeros_hold : (ws : List Width) → Hold ws (replicate (length ws) 0)
zeros_hold [] = tt
zeros_hold (one ∷ ws) = (lit< tt, zeros_hold ws)
zeros_hold (two ∷ ws) = (lit< tt, zeros_hold ws)
zeros_hold (three ∷ ws) = (lit< tt, zeros_hold ws)
zeros_hold (four ∷ ws) = (lit< tt, zeros_hold ws)

module _ {P R : Type 0} (t : Table P R) (f : Lies t) where
  -- ---- the free place

  pub vacant_fits : Fits t (vacant t)
  vacant_fits = record { holds = rw f.blank (zeros_hold t.widths); whole = ap t.from f.blank }

  pub vacant_nobody : t.csd (vacant t) ≡ 0
  vacant_nobody = f.nobody (vacant t) f.empty

  -- in a book of no records every place is free, and every list empty
  pub place_zeros : (n k : ℕ) → t.at (zeros n) k ≡ vacant t
  place_zeros n k = f.reads (zeros n) k ∙ ap t.from (numbers_zeros t.widths n (address t k) 0)

  pub list_zeros : (n a : ℕ) → 1 ≤ a → list_of t a (zeros n) ≡ []
  list_zeros n a l =
      lone_none t.csd t.rec a (t.at (zeros n)) t.places l (λ k. ap t.csd (place_zeros n k) ∙ vacant_nobody)

  -- ---- a store at place i

  module _ (b : List ℕ) (i : ℕ) (place : i < t.places) where
    module _ (inside : end t ≤ length b) (r : P) (fits : Fits t r) where
      stands : t.at (t.put b i r) i ≡ r
      stands = back t f b i r fits place inside

      -- a place that stays out of a's hands
      pub list_still : (a : ℕ) → (t.csd (t.at b i) ≡ a → ⊥) → (t.csd r ≡ a → ⊥)
          → list_of t a (t.put b i r) ≡ list_of t a b
      list_still a d e =
          lone_still t.csd t.rec a (t.at b) (t.at (t.put b i r)) i t.places place (λ k l. other t f b i r k) d
          (λ q. e (sym (ap t.csd stands) ∙ q))

      -- a record more, at a free place
      pub list_added : (c : ℕ) → t.csd r ≡ c → (t.csd (t.at b i) ≡ c → ⊥)
          → Same (list_of t c (t.put b i r)) (t.rec r ∷ list_of t c b)
      list_added c o d p =
          rw stands at (lone_added t.csd t.rec c (t.at b) (t.at (t.put b i r)) i t.places place (λ k l. other t f b i r k) d (ap t.csd stands ∙ o) p)

    -- the one record of c's that passes the test q
    module _ (inside : end t ≤ length b) (c : ℕ) (q : R → Bool) (own : t.csd (t.at b i) ≡ c) (hit : q (t.rec (t.at b i)) ≡ true) (once : count q (list_of t c b) ≤ 1) where
      -- taken out
      pub list_removed : 1 ≤ c → list_of t c (t.put b i (vacant t)) ≡ without q (list_of t c b)
      unfolding without
      list_removed l =
          let e = back t f b i (vacant t) vacant_fits place inside in
          lone_removed t.csd t.rec c q (t.at b) i t.places place own hit once (t.at (t.put b i (vacant t))) (λ k l. other t f b i (vacant t) k)
          (λ z. omega (arith, vacant_nobody, sym (ap t.csd e) ∙ z)) t.places (omega arith)

      -- changed where it stands
      pub list_changed : (r : P) (g : R → R) → Fits t r → t.csd r ≡ c → t.rec r ≡ g (t.rec (t.at b i))
          → list_of t c (t.put b i r) ≡ change q g (list_of t c b)
      unfolding change
      list_changed r g h o x =
          let e = back t f b i r h place inside in
          lone_changed t.csd t.rec c q (t.at b) i t.places place own hit once (t.at (t.put b i r)) (λ k l. other t f b i r k) g
          (ap t.csd e ∙ o) (ap t.rec e ∙ x) t.places (omega arith)

-- ---- the place found: one of a record as asked, and a free one where quotas leave room

module _ {P R : Type 0} (t : Table P R) (b : List ℕ) where
  pub found : (a : ℕ) (p : R → Bool) → 0 < count p (list_of t a b)
      → (place_of t b a p < t.places) × (t.csd (t.at b (place_of t b a p)) ≡ a) × (p (t.rec (t.at b (place_of t b a p))) ≡ true)
  found a p = F.found t.csd t.rec (t.at b) t.places a p

  pub found_free : (p : R → Bool) → ((x : R) → p x ≡ true) → (m : ℕ) → m * t.quota ≤ t.places
      → ((c : ℕ) → 1 ≤ c → c ≤ m → length (list_of t c b) ≤ t.quota)
      → ((k : ℕ) → k < t.places → (t.csd (t.at b k) ≡ 0 → ⊥) → (1 ≤ t.csd (t.at b k)) × (t.csd (t.at b k) ≤ m))
      → (c : ℕ) → 1 ≤ c → c ≤ m → length (list_of t c b) < t.quota
      → (place_of t b 0 p < t.places) × (t.csd (t.at b (place_of t b 0 p)) ≡ 0)
  found_free p any m fit few owner c low high room =
      F.found_free t.csd t.rec (t.at b) t.places m t.quota p any few c low high room fit owner
