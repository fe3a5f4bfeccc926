-- Answer i stands at byte 32 × i, and the bytes behind the answers are those that stood there.
use Prim.Native.Nat.{ℕ, zero, suc, ◌+◌, ◌-◌, ◌*◌, ◌≤◌, ◌<◌}
use mathlib.Core.Path.{◌≡◌, ap, ◌∙◌}
use mathlib.Core.List.{List, [], ◌∷◌, ◌++◌}
use native.Mathlib.Omega.{arith}
use lib.ListN.{length, get_or, take, drop, replicate, length-append, length-replicate, length-drop}
use lib.Seq.{take_at, drop_at, drop-append-add, drop-append-le, take-append-le}
use Rattle.meaning.specs.Printing.{printed}
use Rattle.meaning.specs.Batch.{width, filled, spaced, space_after}
use Rattle.meaning.specs.declared.Answer.{Answer}
use Rattle.batches.specs.Taken.{Placed}

filled_least : (l : List ℕ) → width ≤ length (filled l)
unfolding filled
filled_least l =
    omega (arith, length-append l (replicate (width - length l) 0), length-replicate {A = ℕ} (width - length l) 0)

spaced_least : (as' : List Answer) → width * length as' ≤ length (spaced as')
unfolding spaced
spaced_least [] = omega arith
spaced_least (a ∷ as') =
    omega (arith, length-append (filled (printed a)) (spaced as'), filled_least (printed a), spaced_least as')

abbrev Sized : List Answer → Type 0
Sized as' = length (spaced as') ≡ width * length as'

module _ (a : Answer) (as' : List Answer) (s : Sized (a ∷ as')) where
  abbrev x : List ℕ
  x = filled (printed a)

  first_size : length x ≡ width
  unfolding spaced
  first_size = omega (arith, s, length-append x (spaced as'), filled_least (printed a), spaced_least as')

  rest_size : Sized as'
  unfolding spaced
  rest_size = omega (arith, s, length-append x (spaced as'), filled_least (printed a), spaced_least as')

spaced_at : (as' : List Answer) (d : Answer) → Sized as' → (i : ℕ) → i < length as'
    → take width (drop (width * i) (spaced as')) ≡ filled (printed (get_or as' i d))
unfolding spaced
spaced_at [] d s i h = absurd (omega arith)
spaced_at (a ∷ as') d s zero h = take_at (filled (printed a)) (spaced as') width (first_size a as' s)
spaced_at (a ∷ as') d s (suc i) h =
    let z = filled (printed a) in
    let e : width * suc i ≡ length z + width * i = omega (arith, first_size a as' s) in
    ap (λ k. take width (drop k (z ++ spaced as'))) e
    ∙ ap (take width) (drop-append-add z (spaced as') (width * i))
    ∙ spaced_at as' d (rest_size a as' s) i (omega arith)

pub placed : (as' : List Answer) (o : List ℕ) → Sized as' → Placed as' o (space_after as' o)
unfolding space_after
placed as' o s =
    let z = spaced as' in
    let behind = drop (length z) o in
    record {
      stands = λ d i h.
          let n : width * i + width ≤ length z = omega (arith, s) in
          let m : width ≤ length (drop (width * i) z) = omega (arith, n, length-drop (width * i) z) in
          ap (take width) (drop-append-le (width * i) z behind (omega (arith, n)))
          ∙ take-append-le width (drop (width * i) z) behind m
          ∙ spaced_at as' d s i h;
      later = drop_at z behind (width * length as') s ∙ ap (λ k. drop k o) s;
    }
