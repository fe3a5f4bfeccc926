-- The table of shapes by number: a number for each form, each field and each row; every number has one. Assumes
-- nothing.
use Rattle.std.specs.Prelude.{ℕ, ◌-◌, ◌≤◌, ◌≡◌, cond, List, [], ◌∷◌, ltb, length, get_or}
use Rattle.meaning.specs.Forms.{
  Form,
  code,
  day,
  optional,
  csd_form,
  type_form,
  object_form,
  processing_form,
  sequence_form,
  sign_form,
  criteria_form,
  kind_form,
  number_form,
  party_type_form,
  movement_form,
  payment_form,
  transaction_form,
  wish_form,
  currency_form,
  Shape,
  shape_q,
  shapes,
}

-- the forms that take no empty field, in the order of their numbers; every number from 16 on is the currency's
abbrev pub plain_forms : List Form
plain_forms =
    csd_form
    ∷ type_form
    ∷ object_form
    ∷ processing_form
    ∷ sequence_form
    ∷ criteria_form
    ∷ number_form
    ∷ party_type_form
    ∷ day
    ∷ sign_form
    ∷ kind_form
    ∷ code
    ∷ movement_form
    ∷ payment_form
    ∷ transaction_form
    ∷ wish_form
    ∷ []

abbrev pub plain_form : ℕ → Form
plain_form n = get_or plain_forms n currency_form

-- from this number on a field may be empty
abbrev pub empty_from : ℕ
empty_from = 32

abbrev pub form_at : ℕ → Form
form_at n = cond (ltb n empty_from) (plain_form n) (optional (plain_form (n - empty_from)))

-- ---- the table of shapes

-- row n; past the end that of the shorter Q
abbrev pub shape_at : ℕ → Shape
shape_at n = get_or shapes n shape_q

unfoldable pub forms_at : ℕ → List Form
forms_at n = (shape_at n).forms

-- n fields stand after the letter of row p
pub record Counted (p n : ℕ) : Type 0 where
  pub count : n ≡ length (forms_at p)
  pub few : n ≤ 15
