-- A line written from a row of the table and its numbers, by the same forms that read it. Assumes nothing.
use Rattle.std.specs.Prelude.{ℕ, zero, suc, ◌-◌, List, [], ◌∷◌, ◌++◌, get_or}
use Rattle.meaning.specs.Text.{numeral, spelled}
use Rattle.meaning.specs.Forms.{
  Form,
  up_to,
  code,
  day,
  letters,
  one_of,
  optional,
  letter_text,
  Shape,
}

-- the field of that form that gives the number
unfoldable pub write : Form → ℕ → List ℕ
unfolding numeral
write (up_to m) n = numeral n
write code n = numeral n
write day n = numeral n
write (letters k) n = spelled k n
write (one_of ws) n = get_or ws (n - 1) []
write (optional φ) zero = []
write (optional φ) (suc n) = write φ (suc n)

-- each field behind a comma
unfoldable pub write_all : List Form → List ℕ → List ℕ
unfolding write
write_all [] ns = []
write_all (φ ∷ φs) [] = []
write_all (φ ∷ φs) (n ∷ ns) = 44 ∷ (write φ n ++ write_all φs ns)

unfoldable pub written : Shape → List ℕ → List ℕ
unfolding write_all
written s v = letter_text s.letter ++ write_all s.forms v
