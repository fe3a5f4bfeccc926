-- The place found: where a depository's list has a record as asked, the place is one of it; a free place where its
-- quota leaves room.
use Prim.Native.Nat.{ℕ, ◌*◌, ◌≤◌, ◌<◌}
use mathlib.Core.Path.{◌≡◌, ap, ◌∙◌}
use mathlib.Core.Bool.{Bool, true, ◌&&◌, and-true}
use native.Mathlib.Omega.{arith}
use lib.Dec.{eqb}
use lib.ListN.{length}
use borrow.Author.Tests.{eqb-true}
use Rattle.tables.specs.Count.{find_below, count, lone}
use Rattle.tables.proofs.Counts.{both, find_some}
use Rattle.tables.proofs.Lone.{count_lone}
use Rattle.tables.proofs.Room.{free_place}

pub find_same : (d : ℕ) (p q : ℕ → Bool) (n : ℕ) → ((k : ℕ) → p k ≡ q k) → find_below d p n ≡ find_below d q n
find_same d p q n h = λ i. find_below d (λ k. h k i) n

module _ {P R : Type 0} (csd : P → ℕ) (rec : P → R) (at : ℕ → P) (n a : ℕ) (p : R → Bool) where
  abbrev pub place : ℕ
  place = find_below n (λ k. eqb (csd (at k)) a && p (rec (at k))) n

  pub found : 0 < count p (lone csd rec a at n) → (place < n) × (csd (at place) ≡ a) × (p (rec (at place)) ≡ true)
  found h =
      let f = find_some n (λ k. eqb (csd (at k)) a && p (rec (at k))) n (omega (arith, count_lone csd rec a p at n)) in
      let b = both (eqb (csd (at place)) a) (p (rec (at place))) f.1 in
      (f.0, eqb-true (csd (at place)) a b.0, b.1)

-- A free place is depository 0's, whatever is asked of its record.
pub found_free : {P R : Type 0} (csd : P → ℕ) (rec : P → R) (at : ℕ → P) (n m q : ℕ) (p : R → Bool)
    → ((x : R) → p x ≡ true) → ((c : ℕ) → 1 ≤ c → c ≤ m → length (lone csd rec c at n) ≤ q) → (c : ℕ) → 1 ≤ c → c ≤ m
    → length (lone csd rec c at n) < q → m * q ≤ n
    → ((k : ℕ) → k < n → (csd (at k) ≡ 0 → ⊥) → (1 ≤ csd (at k)) × (csd (at k) ≤ m))
    → (place csd rec at n 0 p < n) × (csd (at (place csd rec at n 0 p)) ≡ 0)
found_free csd rec at n m q p any few c low high room fit each =
    let e = find_same n (λ k. eqb (csd (at k)) 0 && p (rec (at k))) (λ k. eqb (csd (at k)) 0) n (λ k. ap (λ t. eqb (csd (at k)) 0 && t) (any (rec (at k))) ∙ and-true (eqb (csd (at k)) 0)) in
    let f = free_place csd rec at n m q few c low high room fit each in
    rw e (f.0, eqb-true _ 0 f.1)
