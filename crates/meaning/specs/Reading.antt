-- How a line is read: refusals 2 to 5, or its letter and the numbers of its fields. Assumes nothing.
use Rattle.std.specs.Prelude.{ℕ, cond, ◌&&◌, List, [], ◌∷◌, length, Option, Some, None}
use Rattle.tables.specs.Count.{has}
use Rattle.meaning.specs.Fields.{well_made, fields}
use Rattle.meaning.specs.Forms.{Form, read, Letter, Shape, shapes, has_letter, has_length, first_shape}
use Rattle.meaning.specs.Records.{command_of}
use Rattle.meaning.specs.Refusals.{wrong}
use Rattle.meaning.specs.declared.Refusal.{Refusal}
use Rattle.meaning.specs.declared.Refusal.TheVariants.{BadLine, NoLetter, FieldCount, BadField}

pub data Reading : Type 0 where
  refused : Refusal → Reading
  -- its letter, and the numbers of the fields after it
  asks : Letter → List ℕ → Reading

abbrev pub together : Option ℕ → Option (List ℕ) → Option (List ℕ)
together None ns = None
together (Some n) None = None
together (Some n) (Some ns) = Some (n ∷ ns)

-- each field by its form
unfoldable pub read_all : List Form → List (List ℕ) → Option (List ℕ)
unfolding read
read_all [] fs = Some []
read_all (φ ∷ φs) [] = None
read_all (φ ∷ φs) (f ∷ fs) = together (read φ f) (read_all φs fs)

-- 5: a field is outside its form or range, wrongly empty or wrongly filled
unfoldable pub by_numbers : Letter → Option (List ℕ) → Reading
by_numbers l None = refused BadField
by_numbers l (Some v) = asks l v

-- 4: the number of fields is of none of the letter's rows
unfoldable pub by_shape : Option Shape → List (List ℕ) → Reading
unfolding by_numbers read_all
by_shape None fs = refused FieldCount
by_shape (Some s) fs = by_numbers s.letter (read_all s.forms fs)

-- 3: the first field isn't a letter of the table
unfoldable pub by_fields : List (List ℕ) → Reading
unfolding has by_shape first_shape shapes
by_fields [] = refused NoLetter
by_fields (f ∷ fs) =
    cond (has (has_letter f) shapes) (by_shape (first_shape (λ s. has_letter f s && has_length (length fs) s) shapes) fs) (refused NoLetter)

-- 2: the line has 0 bytes or over 80, or a byte not allowed
unfoldable pub numbers_read : List ℕ → Reading
unfolding well_made by_fields fields
numbers_read line = cond (well_made line) (by_fields (fields line)) (refused BadLine)

-- 5 too: what `wrong` says of all the numbers
unfoldable pub unless_wrong : Reading → Reading
unfolding wrong command_of
unless_wrong (refused r) = refused r
unless_wrong (asks l v) = cond (wrong (command_of l v)) (refused BadField) (asks l v)

unfoldable pub reading : List ℕ → Reading
unfolding unless_wrong numbers_read
reading line = unless_wrong (numbers_read line)
