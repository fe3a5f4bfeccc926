-- A walk along a chain, for whatever is asked at its places: where it has come to, and what that says.
use Rattle.std.proofs.Common.{◌≡◌, ℕ, ◌-◌, ◌<◌, ◌≤◌, Bool, true, false, get_or, refl, arith}
use mathlib.Core.Bool.{false≢true}
use Rattle.tables.proofs.Counts.{cases_eq}
use Rattle.chains.specs.Sizes.{most_places}
use Rattle.chains.specs.declared.Seen.{Seen}
use Rattle.chains.specs.Chains.{in_bucket, Chained, Walking, Walkable, Walked}
use Rattle.chains.proofs.Chaining.{walk_start, walk_on, walk_less, walk_end, walk_found}

abbrev never : ℕ → Bool
never n = false

-- The walk has come to j: within the places that may be asked, and with the answer of any question among those below.
pub record WalkedTo (s : Seen) (k : ℕ) (may : ℕ → Type 0) (says : ℕ → Bool → Type 0) (j : ℕ) : Type 0 where
  pub chains : Walkable s k may
  pub within : Walking chains.csd chains.bucket k never chains.places j
  pub asked : (csd bucket : ℕ → ℕ) (i : ℕ) (p : ℕ → Bool) → Chained csd bucket s i
      → ((n : ℕ) → p n ≡ true → in_bucket csd bucket k n ≡ true) → ((n : ℕ) (r : Bool) → n < i → says n r → r ≡ p n)
      → Walking csd bucket k p i j

module _ (s : Seen) (k : ℕ) (may : ℕ → Type 0) (says : ℕ → Bool → Type 0) where
  pub walked_start : Walkable s k may → WalkedTo s k may says (get_or s.head k 0)
  walked_start m = record {
    chains = m;
    within = walk_start m.csd m.bucket k never m.places s (λ n e. absurd (false≢true e)) m.chained m.inside;
    asked = λ csd bucket i p c only ties. walk_start csd bucket k p i s only c m.inside;
  }

  module _ (j : ℕ) (w : WalkedTo s k may says j) (more : j ≡ 0 → ⊥) where
    before : j - 1 < w.chains.places
    before =
        let u : 1 ≤ j = cases_eq j 0 (λ z. absurd (more z)) (λ z. omega (arith, z)) in
        omega (arith, w.within.few)

    pub walked_may : may (j - 1)
    walked_may = w.chains.each (j - 1) before

    pub walked_inside : j - 1 < most_places
    walked_inside = omega (arith, before, w.chains.few)

    pub walked_less : get_or s.next (j - 1) 0 < j
    walked_less = walk_less w.chains.csd w.chains.bucket k never w.chains.places j s w.chains.chained w.within more

    module _ (r : Bool) (e : says (j - 1) r) where
      below : (csd bucket : ℕ → ℕ) (i : ℕ) (p : ℕ → Bool) → Walking csd bucket k p i j → j - 1 < i
      below csd bucket i p v =
          let u : 1 ≤ j = cases_eq j 0 (λ z. absurd (more z)) (λ z. omega (arith, z)) in
          omega (arith, v.few)

      pub walked_on : r ≡ false → WalkedTo s k may says (get_or s.next (j - 1) 0)
      walked_on f = record {
        chains = w.chains;
        within = walk_on w.chains.csd w.chains.bucket k never w.chains.places j false s w.chains.chained w.within more refl refl;
        asked = λ csd bucket i p c only ties.
            let v = w.asked csd bucket i p c only ties in
            walk_on csd bucket k p i j r s c v more (ties (j - 1) r (below csd bucket i p v) e) f;
      }

      pub walked_found : r ≡ true → Walked s k says true
      walked_found f = λ csd bucket i p c only ties.
          let v = w.asked csd bucket i p c only ties in
          walk_found csd bucket k p i j r v more (ties (j - 1) r (below csd bucket i p v) e) f

  pub walked_end : (j : ℕ) → WalkedTo s k may says j → j ≡ 0 → Walked s k says false
  walked_end j w e = λ csd bucket i p c only ties. walk_end csd bucket k p i j (w.asked csd bucket i p c only ties) e
