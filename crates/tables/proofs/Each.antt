-- What holds of a whole list, said of each of its records, and tests that agree at every place.
use Prim.Native.Nat.{ℕ}
use mathlib.Core.Path.{◌≡◌, refl, ap, ◌∙◌}
use mathlib.Core.Bool.{Bool, true, false, ◌&&◌, and_comm, false≢true}
use mathlib.Core.List.{List, [], ◌∷◌}
use native.Mathlib.Omega.{arith}
use lib.Dec.{leb}
use lib.ListN.{length}
use borrow.Author.Tests.{le-leb}
use Rattle.tables.specs.Count.{all_below, every}
use Rattle.tables.proofs.Counts.{agree, ands}
use Rattle.tables.proofs.Lists.{every_and, every_any}

pub all_same : (p q : ℕ → Bool) (n : ℕ) → ((k : ℕ) → p k ≡ q k) → all_below p n ≡ all_below q n
all_same p q n h = λ i. all_below (λ k. h k i) n

every_const : {R : Type 0} (t : Bool) (l : List R) → (length l ≡ 0 → t ≡ true) → every (λ x. t) l ≡ t
unfolding every
every_const true l h = every_any l
every_const false [] h = absurd (false≢true (h refl))
every_const false (x ∷ l) h = refl

-- A list within its quota, said at each of its records.
pub every_quota : {R : Type 0} (p : R → Bool) (q : ℕ) (l : List R)
    → every (λ x. p x && leb (length l) q) l ≡ (leb (length l) q && every p l)
every_quota p q l =
    every_and p (λ x. leb (length l) q) l
    ∙ ap (λ t. every p l && t) (every_const (leb (length l) q) l (λ e. le-leb (length l) q (omega arith)))
    ∙ and_comm (every p l) (leb (length l) q)

-- Four tests of one kind and four of another, kind by kind or pair by pair.
pub pairs : (a b c d e f g h : Bool)
    → (((a && b) && (c && d)) && (e && (f && (g && h)))) ≡ ((a && e) && ((b && f) && ((c && g) && (d && h))))
pairs a b c d e f g h =
    agree (((a && b) && (c && d)) && (e && (f && (g && h)))) ((a && e) && ((b && f) && ((c && g) && (d && h))))
    (λ t. all_eight (search ands) (search ands) (search ands) (search ands) (search ands) (search ands) (search ands) (search ands))
    (λ t. all_eight' (search ands) (search ands) (search ands) (search ands) (search ands) (search ands) (search ands) (search ands))
  where
    all_eight : a ≡ true → b ≡ true → c ≡ true → d ≡ true → e ≡ true → f ≡ true → g ≡ true → h ≡ true
        → ((a && e) && ((b && f) && ((c && g) && (d && h)))) ≡ true
    all_eight z y x w v u t s = rw (z, y, x, w, v, u, t, s)

    all_eight' : a ≡ true → b ≡ true → c ≡ true → d ≡ true → e ≡ true → f ≡ true → g ≡ true → h ≡ true
        → (((a && b) && (c && d)) && (e && (f && (g && h)))) ≡ true
    all_eight' z y x w v u t s = rw (z, y, x, w, v, u, t, s)
