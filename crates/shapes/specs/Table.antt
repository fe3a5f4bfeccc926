-- The table of shapes (document 01, 'Lines'; document 02, request b) as the code names its forms, fields and rows.
-- Assumes nothing.
use Rattle.std.specs.Prelude.{ℕ, List, []}
use Rattle.meaning.specs.Forms.{
  Form,
  letters,
  up_to,
  one_of,
  optional,
  csd_form,
  type_form,
  object_form,
  processing_form,
  sequence_form,
  criteria_form,
  number_form,
  party_type_form,
  day,
  sign_form,
  kind_form,
  code,
  movement_form,
  payment_form,
  transaction_form,
  wish_form,
  currency_form,
  Shape,
  shape_t,
  shape_e,
  shape_r,
  shape_o,
  shape_d,
  shape_m,
  shape_n,
  shape_a,
  shape_z,
  shape_q_wishes,
  shape_q,
}
use Rattle.shapes.specs.declared.Form.{Form as FormName}
use Rattle.shapes.specs.declared.Form.TheVariants.{
  Csd,
  TypeNumber,
  Object,
  Processing,
  Sequence,
  Criteria,
  Number,
  PartyType,
  Day,
  Sign,
  Kind,
  Code,
  Movement,
  Payment,
  Transaction,
  Wish,
  Currency,
}
use Rattle.shapes.specs.declared.Field.{Field}
use Rattle.shapes.specs.declared.Field.TheVariants.{Filled, Optional}
use Rattle.shapes.specs.declared.Shape.{Shape as RowName}
use Rattle.shapes.specs.declared.Shape.TheVariants.{T, E, R, O, D, M, N, A, Z, QuestionWithWishes, Question}

-- the form of a field that is not empty
abbrev pub plain_form : FormName → Form
plain_form Csd = csd_form
plain_form TypeNumber = type_form
plain_form Object = object_form
plain_form Processing = processing_form
plain_form Sequence = sequence_form
plain_form Criteria = criteria_form
plain_form Number = number_form
plain_form PartyType = party_type_form
plain_form Day = day
plain_form Sign = sign_form
plain_form Kind = kind_form
plain_form Code = code
plain_form Movement = movement_form
plain_form Payment = payment_form
plain_form Transaction = transaction_form
plain_form Wish = wish_form
plain_form Currency = currency_form

-- the words of a form, where it is a choice of words
unfoldable pub words_of : Form → List (List ℕ)
words_of (up_to n) = []
words_of code = []
words_of day = []
words_of (letters n) = []
words_of (one_of ws) = ws
words_of (optional φ) = []

abbrev pub field_of : Field → Form
field_of (Filled f) = plain_form f
field_of (Optional f) = optional (plain_form f)

-- ---- the table of shapes

unfoldable pub row_of : RowName → Shape
unfolding shape_t shape_e shape_r shape_o shape_d shape_m shape_n shape_a shape_z shape_q_wishes shape_q
row_of T = shape_t
row_of E = shape_e
row_of R = shape_r
row_of O = shape_o
row_of D = shape_d
row_of M = shape_m
row_of N = shape_n
row_of A = shape_a
row_of Z = shape_z
row_of QuestionWithWishes = shape_q_wishes
row_of Question = shape_q

-- the forms of the fields after a row's letter
unfoldable pub forms_of : RowName → List Form
unfolding row_of
forms_of s = (row_of s).forms
