-- What an index in a line has to do with the fields of the meaning.
use mathlib.Core.Path.{◌≡◌, refl, ◌∙◌}
use mathlib.Core.Bool.{Bool, true, false, not, cond}
use mathlib.Core.List.{List, [], ◌∷◌}
use Prim.Native.Nat.{ℕ, suc, ◌+◌, ◌-◌, ◌≤◌, ◌<◌}
use native.Mathlib.Numerals.{add-one}
use native.Mathlib.Omega.{arith}
use lib.Dec.{eqb, ltb}
use Rattle.std.specs.Prelude.{Option, Some, None}
use Rattle.std.specs.Option.{unwrap_or}
use Rattle.std.specs.List.{position_or_len}
use Rattle.tables.proofs.Counts.{cases}
use borrow.Author.Tests.{ltb-false}
use lib.ListN.{length, get_or, take, drop, length-drop, drop_of_length-le}
use lib.Seq.{drop-cons, drop-drop}
use Rattle.meaning.specs.Text.{place}
use Rattle.meaning.specs.Fields.{is_comma, before, fields}
use Rattle.fields.specs.Cut.{more, Cuts}

-- the next element, and what is left after it
pub next : (l : List ℕ) (i : ℕ) → i < length l → drop i l ≡ get_or l i 0 ∷ drop (i + 1) l
next l i h = rw add-one (drop-cons l i 0 h)

-- ---- the place of a byte

-- it is what `position` finds
place_position : (c : ℕ) (l : List ℕ) → position_or_len (λ x. eqb x c) l ≡ place c l
place_position c [] = refl
place_position c (x ∷ xs) = go (eqb x c) (place_position c xs)
  where
    go : (b : Bool) → position_or_len (λ x. eqb x c) xs ≡ place c xs
        → cond (not b) (1 + position_or_len (λ x. eqb x c) xs) 0 ≡ cond b 0 (suc (place c xs))
    go true e = refl
    go false e = omega (arith, e)

pub place_bound : (c : ℕ) (l : List ℕ) → place c l ≤ length l
place_bound c [] = omega arith
place_bound c (x ∷ xs) = go (eqb x c) (place_bound c xs)
  where
    go : (b : Bool) → place c xs ≤ length xs → cond b 0 (suc (place c xs)) ≤ suc (length xs)
    go true h = omega arith
    go false h = omega arith

-- the end of a list that has no c is where `position` finds none
pub position_place : (c : ℕ) (l : List ℕ) {r : Option ℕ}
    → r ≡ cond (ltb (position_or_len (λ x. eqb x c) l) (length l)) (Some (position_or_len (λ x. eqb x c) l)) None
    → unwrap_or r (length l) ≡ place c l
position_place c l e =
    rw (e, place_position c l)
    (cases (ltb (place c l) (length l))
    (λ f. rw f)
    (λ f. rw f (let h = ltb-false (place c l) (length l) f in omega (arith, place_bound c l))))

-- ---- the fields

-- the first field, and those after it
pub first_field : (l : List ℕ) → fields l ≡ take (place 44 l) l ∷ more (drop (place 44 l) l)
unfolding fields more
first_field [] = refl
first_field (c ∷ cs) = go (is_comma c) (first_field cs)
  where
    n : ℕ
    n = place 44 cs

    go : (b : Bool) → fields cs ≡ take n cs ∷ more (drop n cs)
        → before b c (fields cs) ≡ take (cond b 0 (suc n)) (c ∷ cs) ∷ more (drop (cond b 0 (suc n)) (c ∷ cs))
    go true e = refl
    go false e = rw e

-- the field that begins at an index ends at the next comma or the end, e
pub cuts : (l : List ℕ) (at : ℕ) {e : ℕ} → e ≡ at + place 44 (drop at l) → Cuts l at e
cuts l at {e} q = record {
  whole = q;
  field =
      let n : e - at ≡ place 44 (drop at l) = omega arith in
      rw (n, q) (first_field (drop at l) ∙ rw drop-drop);
  from = omega arith;
  inside = λ h. omega (arith, place_bound 44 (drop at l), length-drop at l);
}

-- the field after the comma at i ends at e
pub passes : (l : List ℕ) (i : ℕ) {e : ℕ} → i < length l → Cuts l (i + 1) e → more (drop i l) ≡ take (e - (i + 1)) (drop (i + 1) l) ∷ more (drop e l)
unfolding more
passes l i h q = rw (next l i h) q.field

-- no field is after the line's end
pub passes_none : (l : List ℕ) (i : ℕ) → length l ≤ i → more (drop i l) ≡ []
unfolding more
passes_none l i h = rw (drop_of_length-le l h)
