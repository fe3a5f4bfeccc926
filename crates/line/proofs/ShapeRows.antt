-- The rows of the table of shapes: the code finds the row that the meaning's `first_shape` gives, and whether any row
-- has a letter.
use Prim.Native.Nat.{ℕ, suc}
use mathlib.Core.Path.{◌≡◌, refl, ap, sym, ◌∙◌}
use mathlib.Core.Bool.{Bool, true, false, ◌&&◌, ◌||◌}
use mathlib.Core.List.{List, [], ◌∷◌, map}
use lib.Dec.{eqb}
use lib.ListN.{length, length-map}
use borrow.Author.Tests.{eqb-true}
use Rattle.std.specs.Option.{option_map}
use Rattle.std.specs.List.{list_any, find}
use Rattle.tables.specs.Count.{has, every}
use Rattle.tables.proofs.Counts.{cases, both}
use Rattle.tables.proofs.Lists.{has_cons}
use Rattle.meaning.specs.Text.{same}
use Rattle.meaning.specs.Forms.{letter_text, Shape, shapes, has_letter, first_shape}
use Rattle.shapes.specs.declared.Shape.{Shape as RowName}
use Rattle.shapes.specs.declared.Field.{Field}
use Rattle.shapes.specs.Table.{field_of, forms_of, row_of}
use Rattle.shapes.proofs.TableRule.{all_rows, all_shapes, one_byte, all_one_byte}
use Rattle.line.specs.Line.{as_shape}

-- ---- a letter is one byte

same_length : (a b : List ℕ) → (length a ≡ length b → ⊥) → false ≡ same a b
same_length [] [] h = absurd (h refl)
same_length [] (d ∷ b) h = refl
same_length (c ∷ a) [] h = refl
same_length (c ∷ a) (d ∷ b) h = go (eqb c d) (same_length a b (λ e. h (ap suc e)))
  where
    go : (t : Bool) → false ≡ same a b → false ≡ (t && same a b)
    go true e = e
    go false e = refl

none_long : (f : List ℕ) (l : List Shape) → every one_byte l ≡ true → (length f ≡ 1 → ⊥) → has (has_letter f) l ≡ false
unfolding every has
none_long f [] e h = refl
none_long f (s ∷ l) e h =
    let b = both (one_byte s) (every one_byte l) e in
    has_cons (has_letter f) s l
    ∙ rw (← (same_length f (letter_text s.letter) (λ z. h (z ∙ eqb-true _ 1 b.0))), none_long f l b.1 h)

-- no row has a letter of another length
pub no_row : (f : List ℕ) → (length f ≡ 1 → ⊥) → has (has_letter f) shapes ≡ false
no_row f h = none_long f shapes all_one_byte h

-- ---- the rows that pass a test

any_of : (p : Shape → Bool) (l : List RowName) → has p (map row_of l) ≡ list_any (λ s. p (row_of s)) l
unfolding has
any_of p [] = refl
any_of p (s ∷ l) = has_cons p (row_of s) (map row_of l) ∙ ap (λ b. p (row_of s) || b) (any_of p l)

pub any_row : (p : Shape → Bool) → list_any (λ s. p (row_of s)) all_rows ≡ has p shapes
any_row p = sym (any_of p all_rows) ∙ ap (has p) all_shapes

first_of_lem : (p : Shape → Bool) (l : List RowName) → option_map row_of (find (λ s. p (row_of s)) l) ≡ first_shape p (map row_of l)
unfolding first_shape
first_of_lem p [] = refl
first_of_lem p (s ∷ l) = cases (p (row_of s)) (λ e. rw e) (λ e. rw e (first_of_lem p l))

pub first_row : (p : Shape → Bool) → option_map row_of (find (λ s. p (row_of s)) all_rows) ≡ first_shape p shapes
first_row p = first_of_lem p all_rows ∙ ap (first_shape p) all_shapes

-- ---- a row with that letter and that many fields

module _ (c k : ℕ) (s : RowName) {t : Bool} (fs : List Field) (a : t ≡ has_letter (c ∷ []) (row_of s)) (b : map field_of fs ≡ forms_of s) where
  pub same_count : t ≡ true → eqb k (length fs) ≡ as_shape c k (row_of s)
  unfolding forms_of
  same_count e = let n : length fs ≡ length (row_of s).forms = sym (length-map fs field_of) ∙ ap length b in rw (← a, e, ← n)
