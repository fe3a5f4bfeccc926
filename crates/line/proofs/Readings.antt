-- What a line gives, test by test: x is what the code answers.
use mathlib.Core.Path.{◌≡◌, refl, ap, sym, ◌∙◌}
use mathlib.Core.Bool.{Bool, true, false, ◌&&◌}
use mathlib.Core.List.{List, [], ◌∷◌}
use Rattle.std.specs.Prelude.{Option, Some, None, Result, Ok, Err}
use Rattle.std.specs.Option.{option_map, ok_or}
use Rattle.std.specs.Result.{IsErrAnd}
use Rattle.std.proofs.lemmas.Result.{err_from_is_err_and}
use Prim.Native.Nat.{ℕ, ◌+◌, ◌≤◌}
use borrow.Author.Tests.{eq-eqb, ne_eqb}
use native.Mathlib.Omega.{arith}
use lib.Dec.{eqb}
use lib.ListN.{length, get_or, take, drop}
use lib.Seq.{length-take-le}
use Rattle.tables.specs.Count.{has, every}
use Rattle.tables.proofs.Counts.{cases_eq}
use Rattle.meaning.specs.Text.{place}
use Rattle.meaning.specs.Fields.{allowed, well_made, within, is_comma, before, fields}
use Rattle.meaning.specs.Forms.{shapes, has_letter, letter_byte, first_shape}
use Rattle.meaning.specs.Reading.{read_all, by_shape, by_numbers, by_fields, numbers_read}
use Rattle.meaning.specs.declared.Refusal.{Refusal}
use Rattle.meaning.specs.declared.Refusal.TheVariants.{BadLine, NoLetter, FieldCount, BadField}
use Rattle.fields.specs.Cut.{more}
use Rattle.fields.proofs.Cutting.{first_field, place_bound}
use Rattle.shapes.specs.declared.Shape.{Shape as RowName}
use Rattle.shapes.specs.Table.{row_of, forms_of}
use Rattle.line.specs.Line.{as_shape, in_row, line_of}
use Rattle.line.specs.declared.reading.Line.{Line}
use Rattle.line.proofs.ShapeRows.{no_row}

-- ---- bytes

module _ (l : List ℕ) {t : Bool} (e : t ≡ within 1 80 (length l)) where
  pub good_length : {r : Bool} → t ≡ true → r ≡ every allowed l → r ≡ well_made l
  unfolding well_made
  good_length f g = rw (sym e ∙ f) g

  pub bad_length : t ≡ false → t ≡ well_made l
  unfolding well_made
  bad_length f = f ∙ rw (sym e ∙ f)

pub ill_made : (l : List ℕ) → well_made l ≡ false → Err BadLine ≡ line_of (numbers_read l)
unfolding numbers_read line_of
ill_made l e = rw e

pub well_made_lem : (l : List ℕ) {x : Result Line Refusal} → well_made l ≡ true → x ≡ line_of (by_fields (fields l)) → x ≡ line_of (numbers_read l)
unfolding numbers_read
well_made_lem l e r = rw e r

-- ---- how many fields a line has

before_long : (b : Bool) (c : ℕ) (fs : List (List ℕ)) → length (before b c fs) ≤ length fs + 1
before_long true c fs = omega arith
before_long false c [] = omega arith
before_long false c (f ∷ fs) = omega arith

fields_few : (l : List ℕ) → length (fields l) ≤ length l + 1
unfolding fields
fields_few [] = omega arith
fields_few (c ∷ l) = omega (arith, before_long (is_comma c) c (fields l), fields_few l)

pub more_few : (l : List ℕ) → length (more l) ≤ length l
unfolding more
more_few [] = omega arith
more_few (c ∷ l) = omega (arith, fields_few l)

-- ---- the letter

-- a first field of one byte
first_byte : (l : List ℕ) → place 44 l ≡ 1 → take (place 44 l) l ≡ get_or l 0 0 ∷ []
first_byte [] e = absurd (omega arith)
first_byte (c ∷ l) e = rw e

-- its first field, whose end is at e, is a letter where it is one byte that is a letter
is_letter : (l : List ℕ) (e : ℕ) (h : Bool) → e ≡ place 44 l → h ≡ has (has_letter (get_or l 0 0 ∷ [])) shapes → has (has_letter (take e l)) shapes ≡ (eqb e 1 && h)
is_letter l e h a d =
    cases_eq e 1
    (λ o. rw (eq-eqb e 1 o, a, first_byte l (sym a ∙ o)) (sym d))
    (λ o. rw (ne_eqb e 1 o) (no_row (take e l) (λ z. o (sym (length-take-le e l (omega (arith, place_bound 44 l))) ∙ z))))

module _ (l : List ℕ) {c e : ℕ} {h : Bool} (a : e ≡ place 44 l) (b : c ≡ get_or l 0 0) (d : h ≡ has (has_letter (c ∷ [])) shapes) where
  pub no_letter : (eqb e 1 && h) ≡ false → Err NoLetter ≡ line_of (by_fields (fields l))
  unfolding by_fields line_of
  no_letter v = rw (first_field l, ← a, is_letter l e h a (rw (← b) d), v)

  pub some_letter : (s : Option RowName) {x : Result Line Refusal} {k : ℕ} → e ≡ 1 → h ≡ true → k ≡ length (more (drop e l))
      → option_map row_of s ≡ first_shape (as_shape c k) shapes
      → x ≡ line_of (by_shape (option_map row_of s) (more (drop e l))) → x ≡ line_of (by_fields (fields l))
  unfolding by_fields
  some_letter s o y i j r =
      let q : take e l ≡ c ∷ [] = rw (a, b) (first_byte l (sym a ∙ o)) in
      rw (first_field l, ← a, is_letter l e h a (rw (← b) d), eq-eqb e 1 o, y, q, ← i, ← j) r

-- ---- a refusal by `?`

pub refused_by : {A B : Type 0} {o : Option A} {x : Result B Refusal} (e y : Refusal) → Err y ≡ ok_or o e → o ≡ None
    → IsErrAnd x (λ z. z ≡ y) → x ≡ Err e
refused_by {x} e y a b p =
    let q = err_from_is_err_and x p in
    let s : Err y ≡ Err e = rw b at a in
    let t : y ≡ e = cc in
    q.1 ∙ ap Err (q.2 ∙ t)

-- ---- the numbers

module _ (fs : List (List ℕ)) where
  pub miscounted : Err FieldCount ≡ line_of (by_shape None fs)
  unfolding by_shape line_of
  miscounted = refl

  module _ (s : RowName) {v : Option (List ℕ)} (q : v ≡ in_row (read_all (forms_of s) fs)) where
    pub bad_field : v ≡ None → Err BadField ≡ line_of (by_shape (Some (row_of s)) fs)
    unfolding by_shape by_numbers forms_of in_row line_of
    bad_field e = go (read_all (row_of s).forms fs) (sym e ∙ q)
      where
        go : (n : Option (List ℕ)) → None ≡ in_row n → Err BadField ≡ line_of (by_numbers (row_of s).letter n)
        go None f = refl
        go (Some ns) f = cc

    pub good_fields : {c : ℕ} {row : List ℕ} → v ≡ Some row → c ≡ letter_byte (row_of s).letter
        → Ok (record { letter = c; values = row }) ≡ line_of (by_shape (Some (row_of s)) fs)
    unfolding by_shape by_numbers forms_of in_row line_of
    good_fields {c} {row} e f = go (read_all (row_of s).forms fs) (sym e ∙ q)
      where
        go : (n : Option (List ℕ)) → Some row ≡ in_row n → Ok (record { letter = c; values = row }) ≡ line_of (by_numbers (row_of s).letter n)
        go None g = cc
        go (Some ns) g = cc
