-- The names that the code has for forms and rows, by number. Assumes nothing.
use Rattle.std.specs.Prelude.{ℕ, List, [], ◌∷◌, get_or}
use Rattle.shapes.specs.declared.Form.{Form}
use Rattle.shapes.specs.declared.Form.TheVariants.{
  Csd,
  TypeNumber,
  Object,
  Processing,
  Sequence,
  Criteria,
  Number,
  PartyType,
  Day,
  Sign,
  Kind,
  Code,
  Movement,
  Payment,
  Transaction,
  Wish,
  Currency,
}
use Rattle.shapes.specs.declared.Shape.{Shape}
use Rattle.shapes.specs.declared.Shape.TheVariants.{T, E, R, O, D, M, N, A, Z, QuestionWithWishes, Question}

-- those that have a number of their own
abbrev pub form_names : List Form
form_names =
    Csd
    ∷ TypeNumber
    ∷ Object
    ∷ Processing
    ∷ Sequence
    ∷ Criteria
    ∷ Number
    ∷ PartyType
    ∷ Day
    ∷ Sign
    ∷ Kind
    ∷ Code
    ∷ Movement
    ∷ Payment
    ∷ Transaction
    ∷ Wish
    ∷ []

-- every other number is the currency's
abbrev pub form_named : ℕ → Form
form_named n = get_or form_names n Currency

-- the number of a form
abbrev pub form_number : Form → ℕ
form_number Csd = 0
form_number TypeNumber = 1
form_number Object = 2
form_number Processing = 3
form_number Sequence = 4
form_number Criteria = 5
form_number Number = 6
form_number PartyType = 7
form_number Day = 8
form_number Sign = 9
form_number Kind = 10
form_number Code = 11
form_number Movement = 12
form_number Payment = 13
form_number Transaction = 14
form_number Wish = 15
form_number Currency = 16

-- the rows in the table's order
abbrev pub row_names : List Shape
row_names = T ∷ E ∷ R ∷ O ∷ D ∷ M ∷ N ∷ A ∷ Z ∷ QuestionWithWishes ∷ Question ∷ []

-- past the table the shorter Q
abbrev pub row_named : ℕ → Shape
row_named n = get_or row_names n Question
