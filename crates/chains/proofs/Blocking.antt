-- A block of free places at once: bytes that are all 0 are free places, and the loop over the places may pass them
-- over.
use Prim.Native.Nat.{ℕ, zero, suc, ◌+◌, ◌-◌, ◌≤◌, ◌<◌}
use mathlib.Core.Path.{◌≡◌, sym, ◌∙◌}
use mathlib.Core.Bool.{Bool, true}
use mathlib.Core.List.{List}
use native.Mathlib.Omega.{arith}
use lib.Dec.{eqb}
use lib.ListN.{get_or}
use borrow.Author.Tests.{eqb-true}
use Rattle.tables.specs.Bytes.{Width, total, byte_at, numbers, zeros}
use Rattle.tables.proofs.Counts.{all_more, all_at}
use Rattle.tables.proofs.Bytes.{numbers_same}
use Rattle.tables.proofs.Zeros.{byte_zeros}
use Rattle.chains.specs.declared.Seen.{Seen}
use Rattle.chains.specs.Chains.{right, Going}
use Rattle.chains.specs.Blocks.{zero_from}
use Rattle.chains.proofs.Chaining.{chained_free, counted_free}

-- A place whose bytes are all 0 reads as one of a book of zeros.
pub zero_numbers : (ws : List Width) (b : List ℕ) (from n at : ℕ) → zero_from b from n ≡ true → from ≤ at
    → at + total ws ≤ from + n → numbers ws b at 0 ≡ numbers ws (zeros 0) at 0
unfolding zero_from
zero_numbers ws b from n at e l h = numbers_same ws (zeros 0) b at 0 (λ k low high. here k low high)
  where
    here : (k : ℕ) → at + 0 ≤ k → k < at + (0 + total ws) → byte_at b k ≡ byte_at (zeros 0) k
    here k low high =
        let j : from + (k - from) ≡ k = omega arith in
        rw j at (eqb-true (get_or b (from + (k - from)) 0) 0 (all_at (λ j. eqb (get_or b (from + j) 0) 0) n e (k - from) (omega arith)))
        ∙ sym (byte_zeros 0 k)

module _ (csd bucket : ℕ → ℕ) (places : ℕ) (free rest : ℕ → Bool) (p : ℕ → ℕ → Bool) (q : ℕ) (nobody : (k : ℕ) → free k ≡ true → csd k ≡ 0) (s : Seen) where
  free_right : (k : ℕ) → free k ≡ true → right csd free rest p q k ≡ true
  unfolding right
  free_right k z = rw z

  -- the m places from i on
  pub going_over : (i m : ℕ) → Going csd bucket places (right csd free rest p q) i s → i + m ≤ places
      → ((k : ℕ) → i ≤ k → k < i + m → free k ≡ true)
      → Going csd bucket places (right csd free rest p q) (i + m) s
  going_over i zero g l f = let e : i + 0 ≡ i = omega arith in rw e g
  going_over i (suc m) g l f =
      let r = going_over i m g (omega arith) (λ k low high. f k low (omega arith)) in
      let z = f (i + m) (omega arith) (omega arith) in
      let e : i + suc m ≡ i + m + 1 = omega arith in
      rw e
      (record {
        few = omega arith;
        all = rw (all_more, r.all) (free_right (i + m) z);
        counted = counted_free csd s.counts (i + m) r.counted (nobody (i + m) z);
        chained = chained_free csd bucket s (i + m) r.chained (nobody (i + m) z);
      })
