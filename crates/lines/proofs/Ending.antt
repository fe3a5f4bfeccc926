-- The ended lines of a text, one by one.
use Prim.Native.Nat.{ℕ, suc, ◌+◌, ◌-◌, ◌≤◌, ◌<◌}
use mathlib.Core.Path.{◌≡◌, refl}
use mathlib.Core.List.{List, [], ◌∷◌}
use native.Mathlib.Omega.{arith}
use lib.Dec.{eqb}
use lib.ListN.{length, take, drop, length-drop}
use lib.Seq.{drop-drop}
use Rattle.tables.proofs.Counts.{cases}
use Rattle.meaning.specs.Text.{place}
use Rattle.lines.specs.Ended.{ended}

first_ended : (l : List ℕ) → place 10 l < length l → ended l ≡ take (place 10 l) l ∷ ended (drop (suc (place 10 l)) l)
unfolding ended
first_ended [] h = absurd (omega arith)
first_ended (c ∷ cs) h = cases (eqb c 10) (λ e. rw e) (λ e. rw (e, first_ended cs (let g = rw e at h in omega arith)))

none_ended : (l : List ℕ) → length l ≤ place 10 l → ended l ≡ []
unfolding ended
none_ended [] h = refl
none_ended (c ∷ cs) h =
    cases (eqb c 10)
    (λ e. let g : suc (length cs) ≤ 0 = rw e at h in absurd (omega arith))
    (λ e. rw (e, none_ended cs (let g : suc (length cs) ≤ suc (place 10 cs) = rw e at h in omega arith)))

module _ (l : List ℕ) (at e : ℕ) (q : e ≡ at + place 10 (drop at l)) where
  pub ended_next : e < length l → ended (drop at l) ≡ take (e - at) (drop at l) ∷ ended (drop (e + 1) l)
  ended_next h =
      let n : e - at ≡ place 10 (drop at l) = omega arith in
      let m : e + 1 ≡ at + suc (place 10 (drop at l)) = omega arith in
      rw (n, m, ← drop-drop) (first_ended (drop at l) (omega (arith, length-drop at l)))

  pub ended_none : length l ≤ e → ended (drop at l) ≡ []
  ended_none h = none_ended (drop at l) (omega (arith, length-drop at l))
