-- The code's rows are those of the meaning's table of shapes.
use mathlib.Core.Path.{◌≡◌, refl}
use Prim.Native.Nat.{ℕ, zero, suc}
use native.Mathlib.Omega.{arith}
use mathlib.Core.Bool.{Bool, true}
use mathlib.Core.List.{List, [], ◌∷◌, map}
use lib.Dec.{eqb}
use borrow.Author.Tests.{eqb-true}
use lib.ListN.{length, get_or}
use Rattle.tables.specs.Count.{every}
use Rattle.tables.proofs.Counts.{both}
use Rattle.meaning.specs.Forms.{Shape, shape_q, shapes, letter_text, letter_byte}
use Rattle.shapes.specs.Table.{row_of}
use Rattle.shapes.specs.declared.Shape.{Shape as RowName}
use Rattle.shapes.specs.declared.Shape.TheVariants.{T, E, R, O, D, M, N, A, Z, QuestionWithWishes, Question}

-- `Shape::ALL`, as the code has it
abbrev pub all_rows : List RowName
all_rows = T ∷ E ∷ R ∷ O ∷ D ∷ M ∷ N ∷ A ∷ Z ∷ QuestionWithWishes ∷ Question ∷ []

pub all_shapes : map row_of all_rows ≡ shapes
unfolding row_of shapes
all_shapes = refl

-- a row's index in the table
place : RowName → ℕ
place T = 0
place E = 1
place R = 2
place O = 3
place D = 4
place M = 5
place N = 6
place A = 7
place Z = 8
place QuestionWithWishes = 9
place Question = 10

at_place : (s : RowName) → row_of s ≡ get_or shapes (place s) shape_q
unfolding row_of shapes place
at_place T = refl
at_place E = refl
at_place R = refl
at_place O = refl
at_place D = refl
at_place M = refl
at_place N = refl
at_place A = refl
at_place Z = refl
at_place QuestionWithWishes = refl
at_place Question = refl

every_at : (p : Shape → Bool) (l : List Shape) (n : ℕ) (d : Shape) → every p l ≡ true → p d ≡ true → p (get_or l n d) ≡ true
unfolding every
every_at p [] n d e f = f
every_at p (s ∷ l) zero d e f = (both (p s) (every p l) e).0
every_at p (s ∷ l) (suc n) d e f = every_at p l n d (both (p s) (every p l) e).1 f

-- what holds of every row of the table holds of a row by its name
pub each_row : (p : Shape → Bool) → every p shapes ≡ true → p shape_q ≡ true → (s : RowName) → p (row_of s) ≡ true
each_row p e f s = rw (at_place s) (every_at p shapes (place s) shape_q e f)

-- ---- a letter is one byte

abbrev pub one_byte : Shape → Bool
one_byte s = eqb (length (letter_text s.letter)) 1

pub all_one_byte : every one_byte shapes ≡ true
unfolding every shapes
all_one_byte = refl

single : (f : List ℕ) → length f ≡ 1 → f ≡ get_or f 0 0 ∷ []
single [] h = absurd (omega arith)
single (x ∷ []) h = refl
single (x ∷ y ∷ f) h = absurd (omega arith)

pub letter_text_lem : (s : RowName) → letter_text (row_of s).letter ≡ letter_byte (row_of s).letter ∷ []
unfolding shape_q
letter_text_lem s = single (letter_text (row_of s).letter) (eqb-true _ 1 (each_row one_byte all_one_byte refl s))
