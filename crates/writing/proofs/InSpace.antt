-- A byte put into the space behind what stands in front: zeros are still behind it.
use Prim.Native.Nat.{ℕ, zero, suc, ◌+◌, ◌≤◌, ◌<◌}
use mathlib.Core.Path.{◌≡◌, refl, ap, sym, ◌∙◌}
use mathlib.Core.List.{List, [], ◌∷◌, ◌++◌}
use native.Mathlib.Omega.{arith}
use lib.ListN.{length, take, set, replicate, length-append}
use Rattle.tables.specs.Padded.{padded}
use Rattle.writing.specs.Written.{space, added}
use Rattle.writing.specs.Space.{ZerosBehind}
use Rattle.writing.specs.declared.bytes.Written.TheInside.{Inside}
use Rattle.writing.proofs.Texts.{some_room}

-- a byte put where the zeros begin
set_padded : (n : ℕ) (s : List ℕ) (c : ℕ) → length s < n → set (padded n s) (length s) c ≡ padded n (s ++ (c ∷ []))
unfolding padded
set_padded zero s c h = absurd (omega arith)
set_padded (suc n) [] c h = refl
set_padded (suc n) (x ∷ s) c h = ap (λ l. x ∷ l) (set_padded n s c (omega arith))

take_padded : (n : ℕ) (t : List ℕ) → length t ≤ n → take (length t) (padded n t) ≡ t
unfolding padded
take_padded n [] h = refl
take_padded zero (x ∷ t) h = absurd (omega arith)
take_padded (suc n) (x ∷ t) h = ap (λ l. x ∷ l) (take_padded n t (omega arith))

-- an empty space
pub none_in : ZerosBehind (record { bytes = replicate 80 0; len = 0 })
unfolding padded
none_in = record { few = omega arith; count = refl; zeros = refl }

module _ (w : Inside) (h : ZerosBehind w) (c : ℕ) (r : w.len < space) where
  abbrev front : List ℕ
  front = take w.len w.bytes

  put : set w.bytes w.len c ≡ padded space (front ++ (c ∷ []))
  put =
      ap (λ b. set b w.len c) (sym h.zeros)
      ∙ ap (λ n. set (padded space front) n c) (sym h.count)
      ∙ set_padded space front c (let e : length front ≡ w.len = h.count in omega (arith, e, r))

  longer : length (front ++ (c ∷ [])) ≡ w.len + 1
  longer = let e : length front ≡ w.len = h.count in omega (arith, length-append front (c ∷ []), e)

  taken : take (w.len + 1) (set w.bytes w.len c) ≡ front ++ (c ∷ [])
  taken =
      ap (λ l. take (w.len + 1) l) put
      ∙ ap (λ n. take n (padded space (front ++ (c ∷ [])))) (sym longer)
      ∙ take_padded space (front ++ (c ∷ [])) (omega (arith, longer, r))

  -- what stands in front is a byte longer
  pub put_front : take (w.len + 1) (set w.bytes w.len c) ≡ added (take w.len w.bytes) c
  put_front = let e : length front ≡ w.len = h.count in taken ∙ some_room front c (omega (arith, e, r))

  pub put_in : ZerosBehind (record { bytes = set w.bytes w.len c; len = w.len + 1 })
  put_in = record { few = omega (arith, r); count = ap length taken ∙ longer; zeros = ap (padded space) taken ∙ sym put }
