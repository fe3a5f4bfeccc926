-- A store keeps every place of a table free or a depository's.
use Prim.Native.Nat.{ℕ, ◌≤◌, ◌<◌}
use mathlib.Core.Path.{◌≡◌}
use mathlib.Core.Bool.{Bool, true, ◌||◌, or-true}
use borrow.Author.Tests.{le-leb}
use Rattle.tables.proofs.Counts.{cases_eq, all_at, all_put}
use Rattle.meaning.specs.Fields.{within}
use Rattle.book.specs.Sound.{placed}

module _ {P : Type 0} (csd : P → ℕ) (free : P → Bool) (at at' : ℕ → P) (n : ℕ) (all : placed csd free at n ≡ true) where
  pub placed_same : ((k : ℕ) → k < n → at' k ≡ at k) → placed csd free at' n ≡ true
  unfolding placed
  placed_same h =
      all_put (λ k. free (at' k) || within 1 8 (csd (at' k))) n
      (λ k l. rw (h k l) (all_at (λ k. free (at k) || within 1 8 (csd (at k))) n all k l))

  pub placed_put : (i : ℕ) → ((k : ℕ) → (k ≡ i → ⊥) → at' k ≡ at k) → (free (at' i) || within 1 8 (csd (at' i))) ≡ true
      → placed csd free at' n ≡ true
  unfolding placed
  placed_put i h e =
      all_put (λ k. free (at' k) || within 1 8 (csd (at' k))) n
      (λ k l. cases_eq k i (λ s. rw s e) (λ s. rw (h k s) (all_at (λ k. free (at k) || within 1 8 (csd (at k))) n all k l)))

-- a place of a depository, whatever it holds
pub of_one : (t : Bool) (c : ℕ) → 1 ≤ c → c ≤ 8 → (t || within 1 8 c) ≡ true
of_one t c l h = rw (le-leb 1 c l, le-leb c 8 h) (or-true t)
