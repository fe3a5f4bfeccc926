-- A place of any table: that it holds a record as asked, or none, and what is counted up to it. The table reads a place
-- by at and knows whose it is by csd.
use Prim.Native.Nat.{ℕ, ◌+◌, ◌≤◌, ◌<◌}
use mathlib.Core.Path.{◌≡◌, refl, sym, ◌∙◌, ap}
use mathlib.Core.Bool.{Bool, true, false}
use native.Mathlib.Omega.{arith}
use mir.Val.{bool_byte}
use Rattle.std.specs.Prelude.{Some, None}
use mathlib.Core.List.{List}
use lib.Dec.{eqb}
use borrow.Author.Tests.{eq-eqb, ne_eqb}
use Rattle.tables.specs.Count.{bit, count, count_below}
use Rattle.tables.specs.Table.{Table, hit, list_of}
use Rattle.tables.proofs.Counts.{count_most}
use Rattle.tables.proofs.Lone.{count_lone}
use Rattle.owners.specs.Next.{next, place_if}
use Rattle.owners.proofs.Finding.{next_high, place_some, place_none}
use Rattle.owners.proofs.NextPassing.{count_next}
use Rattle.book.proofs.Looking.{counted_next}

byte_bit : (r : Bool) → bool_byte r ≡ bit r
byte_bit true = refl
byte_bit false = refl

module _ {P R : Type 0} (t : Table P R) (at : List ℕ → ℕ → P) (csd : P → ℕ) (reads : t.at ≡ at) (owns : t.csd ≡ csd) where
  module _ (b : List ℕ) (a : ℕ) (p : R → Bool) where
    pub hit_at : (k x : ℕ) (y : P) (r : Bool) → x ≡ csd (at b k) → x ≡ a → y ≡ at b k → r ≡ p (t.rec y) → r ≡ hit t b a p k
    hit_at k x y r e f g h =
        rw (reads, owns, eq-eqb (csd (at b k)) a (sym e ∙ f)) (h ∙ ap (λ z. p (t.rec z)) g)

    pub miss_at : (k x : ℕ) → x ≡ csd (at b k) → (x ≡ a → ⊥) → false ≡ hit t b a p k
    miss_at k x e f = rw (reads, owns, ne_eqb (csd (at b k)) a (λ z. f (e ∙ z)))

    -- k is the depository's next place from place i on
    next_in : (places i k : ℕ) → k ≡ next (λ j. eqb (csd (at b j)) a) places i → k ≡ next (λ j. eqb (t.csd (t.at b j)) a) places i
    next_in places i k e = rw (reads, owns) e

    counted_more : (places i k n d : ℕ) (r : Bool) → k ≡ next (λ j. eqb (csd (at b j)) a) places i → i ≤ places
        → n ≡ count_below (hit t b a p) i → d ≡ bit r → r ≡ hit t b a p k → n + d ≡ count_below (hit t b a p) (k + 1)
    counted_more places i k n d r e l c x y =
        counted_next t.csd (t.at b) places a i k (next_in places i k e) l (λ z. p (t.rec z)) n c d r x y

    counted_past : (places i k n : ℕ) → k ≡ next (λ j. eqb (csd (at b j)) a) places i → i ≤ places
        → n ≡ count_below (hit t b a p) i → n ≡ count_below (hit t b a p) k
    counted_past places i k n e l c =
        count_next t.csd a (t.at b) places (λ z. p (t.rec z)) i k n (next_in places i k e) l c

    counted_all : (n : ℕ) → n ≡ count_below (hit t b a p) t.places → n ≡ count p (list_of t a b)
    counted_all n c = rw count_lone c

    -- a turn of a pass over the depository's places, which the pass reads of b' for a'
    module _ (places i n a' : ℕ) (b' : List ℕ) (few : t.places ≡ places) (same : b' ≡ b) (own : a' ≡ a) (l : i ≤ t.places) (c : n ≡ count_below (hit t b a p) i) where
      pub counted_turn : (k d : ℕ) (r : Bool) → Some k ≡ place_if places (next (λ j. eqb (csd (at b' j)) a') places i)
          → d ≡ bool_byte r → r ≡ hit t b a p k
          → (k < places) × (n + d ≤ k + 1) × (n + d ≡ count_below (hit t b a p) (k + 1))
      counted_turn k d r e x y =
          let f : (k ≡ next (λ j. eqb (csd (at b j)) a) places i) × (next (λ j. eqb (csd (at b j)) a) places i < places) = place_some places k (next (λ j. eqb (csd (at b j)) a) places i) (rw (same, own) at e) in
          let m : n + d ≡ count_below (hit t b a p) (k + 1) = counted_more places i k n d r f.0 (omega (arith, few)) c (x ∙ byte_bit r) y in
          (omega (arith, f.0, f.1), omega (arith, m, count_most (hit t b a p) (k + 1)), m)

      pub counted_end : None ≡ place_if places (next (λ j. eqb (csd (at b' j)) a') places i)
          → (n ≡ count p (list_of t a b)) × (n ≤ places)
      counted_end e =
          let k = next (λ j. eqb (csd (at b j)) a) places i in
          let f : places ≤ k = place_none places k (rw (same, own) at e) in
          let g : k ≡ t.places = omega (arith, f, few, next_high (λ j. eqb (csd (at b j)) a) places i) in
          let m : n ≡ count_below (hit t b a p) t.places = counted_past places i k n refl (omega (arith, few)) c ∙ ap (count_below (hit t b a p)) g in
          (counted_all n m, omega (arith, few, m, count_most (hit t b a p) t.places))
