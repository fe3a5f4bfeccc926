-- The loop over the fields makes the meaning's list of numbers.
use mathlib.Core.Path.{◌≡◌, refl, ap, sym, ◌∙◌}
use mathlib.Core.List.{List, [], ◌∷◌, map}
use Rattle.std.specs.Prelude.{Option, Some, None}
use Prim.Native.Nat.{ℕ, ◌+◌, ◌≤◌, ◌<◌}
use native.Mathlib.Numerals.{add-one}
use lib.ListN.{length, length-map, get_or-map, get_or, drop, set, replicate, drop_of_length-le}
use lib.Seq.{sets, drop-cons}
use Rattle.meaning.specs.Forms.{Form, csd_form, read}
use Rattle.shapes.specs.declared.Field.{Field}
use Rattle.shapes.specs.declared.Field.TheVariants.{Filled}
use Rattle.shapes.specs.declared.Form.TheVariants.{Csd}
use Rattle.shapes.specs.Table.{field_of}
use Rattle.meaning.specs.Reading.{together, read_all}
use Rattle.line.specs.Line.{in_row}
use Rattle.line.proofs.CommandPadding.{sets_padded}

-- numbers stored in a row from index k on
abbrev stored : ℕ → List ℕ → Option (List ℕ) → Option (List ℕ)
stored k row None = None
stored k row (Some ns) = Some (sets row k ns)

stored_row : (ns : Option (List ℕ)) → stored 0 (replicate 16 0) ns ≡ in_row ns
unfolding in_row
stored_row None = refl
stored_row (Some ns) = ap Some (sets_padded 16 ns)

-- a number goes to its place, and the rest after it
store_next : (k n : ℕ) (row : List ℕ) (ns : Option (List ℕ)) → stored k row (together (Some n) ns) ≡ stored (k + 1) (set row k n) ns
store_next k n row None = refl
store_next k n row (Some ns) = rw add-one

-- before form k, with some fields left: what is in the row, with what is still to be read and stored, gives the whole
pub record RowTo (φs : List Form) (fs : List (List ℕ)) (row : List ℕ) (left : List (List ℕ)) (k : ℕ) : Type 0 where
  pub rest : stored k row (read_all (drop k φs) left) ≡ in_row (read_all φs fs)

pub row_start_lem : (φs : List Form) (fs : List (List ℕ)) → RowTo φs fs (replicate 16 0) fs 0
row_start_lem φs fs = record { rest = stored_row (read_all φs fs) }

module _ {φs : List Form} {fs : List (List ℕ)} {row : List ℕ} {left : List (List ℕ)} {k : ℕ} (r : RowTo φs fs row left k) where
  pub row_end : length φs ≤ k → Some row ≡ in_row (read_all φs fs)
  unfolding read_all
  row_end h = rw (drop_of_length-le φs h) at r.rest

  module _ (φ : Form) (h : k < length φs) (p : φ ≡ get_or φs k csd_form) where
    forms_left : drop k φs ≡ φ ∷ drop (k + 1) φs
    forms_left = rw (p, add-one k) (drop-cons φs k csd_form h)

    -- the line has ended
    pub row_short : left ≡ [] → None ≡ in_row (read_all φs fs)
    unfolding read_all
    row_short e = rw (e, forms_left) at r.rest

    -- a field is outside its form
    pub row_wrong : {f : List ℕ} {rest : List (List ℕ)} → left ≡ f ∷ rest → None ≡ read φ f → None ≡ in_row (read_all φs fs)
    unfolding read_all
    row_wrong e g = rw (e, forms_left, ← g) at r.rest

    pub row_next : {f : List ℕ} {rest : List (List ℕ)} {n : ℕ} → left ≡ f ∷ rest → Some n ≡ read φ f → RowTo φs fs (set row k n) rest (k + 1)
    unfolding read_all
    row_next {f} {rest} {n} e g = record {
      rest = sym (store_next k n row (read_all (drop (k + 1) φs) rest)) ∙ rw (e, forms_left, ← g) at r.rest;
    }

-- the whole by other names
pub by_names : {r : Option (List ℕ)} {φs ψs : List Form} {fs gs : List (List ℕ)} → φs ≡ ψs → fs ≡ gs → r ≡ in_row (read_all φs fs) → r ≡ in_row (read_all ψs gs)
by_names e f h = rw (← e, ← f) h

-- the form of field k
pub form_of : (fs : List Field) (k : ℕ) → field_of (get_or fs k (Filled Csd)) ≡ get_or (map field_of fs) k csd_form
form_of fs k = sym (get_or-map field_of fs k (Filled Csd))

pub forms_long : (fs : List Field) → length (map field_of fs) ≡ length fs
forms_long fs = length-map fs field_of
