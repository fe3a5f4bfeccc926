-- The rows and fields that have a number are the meaning's of that number.
use Prim.Native.Nat.{ℕ, ◌+◌, ◌-◌, ◌≤◌, ◌<◌}
use mathlib.Core.Path.{◌≡◌, refl, sym, ap, ◌∙◌}
use mathlib.Core.List.{List, map}
use native.Mathlib.Omega.{arith}
use lib.ListN.{length, get_or, get_or-map, length-map}
use borrow.Author.Tests.{lt-ltb, le-ltb}
use Rattle.meaning.specs.Forms.{csd_form, currency_form, optional, letter_byte, shapes, shape_q}
use Rattle.shapes.specs.Table.{plain_form, field_of, forms_of, row_of}
use Rattle.shapes.specs.Names.{form_names, form_named, form_number, row_names, row_named}
use Rattle.shapes.specs.Numbered.{plain_forms, empty_from, form_at, forms_at, shape_at, Counted}
use Rattle.shapes.specs.Numbered as by_number
use Rattle.shapes.specs.declared.Form.{Form}
use Rattle.shapes.specs.declared.Form.TheVariants.{
  Csd,
  TypeNumber,
  Object,
  Processing,
  Sequence,
  Criteria,
  Number,
  PartyType,
  Day,
  Sign,
  Kind,
  Code,
  Movement,
  Payment,
  Transaction,
  Wish,
  Currency,
}
use Rattle.shapes.specs.declared.Field.{Field}
use Rattle.shapes.specs.declared.Field.TheVariants.{Filled, Optional}
use Rattle.shapes.specs.declared.Shape.{Shape as RowName}
use Rattle.shapes.specs.declared.Shape.TheVariants.{Question}
use Rattle.shapes.proofs.TableRule.{all_shapes}

-- ---- forms

pub form_of : (n : ℕ) → plain_form (form_named n) ≡ by_number.plain_form n
form_of n = sym (get_or-map plain_form form_names n Currency)

-- a form that is not empty, and one that may be
pub filled_at : (n : ℕ) {f : Form} → n < empty_from → f ≡ form_named n → field_of (Filled f) ≡ form_at n
filled_at n h e = rw (e, lt-ltb n empty_from h) (form_of n)

pub optional_at : (n : ℕ) {f : Form} → empty_from ≤ n → f ≡ form_named (n - empty_from) → field_of (Optional f) ≡ form_at n
optional_at n h e = rw (e, le-ltb n empty_from h) (ap optional (form_of (n - empty_from)))

plain_number : (f : Form) → form_at (form_number f) ≡ plain_form f
plain_number Csd = refl
plain_number TypeNumber = refl
plain_number Object = refl
plain_number Processing = refl
plain_number Sequence = refl
plain_number Criteria = refl
plain_number Number = refl
plain_number PartyType = refl
plain_number Day = refl
plain_number Sign = refl
plain_number Kind = refl
plain_number Code = refl
plain_number Movement = refl
plain_number Payment = refl
plain_number Transaction = refl
plain_number Wish = refl
plain_number Currency = refl

optional_number : (f : Form) → form_at (empty_from + form_number f) ≡ optional (plain_form f)
optional_number Csd = refl
optional_number TypeNumber = refl
optional_number Object = refl
optional_number Processing = refl
optional_number Sequence = refl
optional_number Criteria = refl
optional_number Number = refl
optional_number PartyType = refl
optional_number Day = refl
optional_number Sign = refl
optional_number Kind = refl
optional_number Code = refl
optional_number Movement = refl
optional_number Payment = refl
optional_number Transaction = refl
optional_number Wish = refl
optional_number Currency = refl

-- a number of a form is that form's
pub number_filled : (f : Form) {n : ℕ} → n ≡ form_number f → form_at n ≡ field_of (Filled f)
number_filled f e = rw e (plain_number f)

pub number_optional : (f : Form) {n : ℕ} → n ≡ empty_from + form_number f → form_at n ≡ field_of (Optional f)
number_optional f e = rw e (optional_number f)

-- ---- rows

pub row_of_named : (n : ℕ) → row_of (row_named n) ≡ shape_at n
unfolding row_of
row_of_named n = sym (get_or-map row_of row_names n Question) ∙ ap (λ l. get_or l n shape_q) all_shapes

pub row_at : (n : ℕ) {s : RowName} → s ≡ row_named n → row_of s ≡ shape_at n
row_at n e = ap row_of e ∙ row_of_named n

module _ (n : ℕ) (s : RowName) (e : row_of s ≡ shape_at n) where
  pub letter_at : {c : ℕ} → c ≡ letter_byte (row_of s).letter → c ≡ letter_byte (shape_at n).letter
  letter_at h = h ∙ ap (λ r. letter_byte r.letter) e

  forms_same : forms_of s ≡ forms_at n
  unfolding forms_of forms_at
  forms_same = ap (λ r. r.forms) e

  pub count_at : (fs : List Field) {k : ℕ} → map field_of fs ≡ forms_of s → length fs ≤ 15 → k ≡ length fs → Counted n k
  count_at fs h few j = record { count = j ∙ sym (length-map fs field_of) ∙ ap length (h ∙ forms_same); few = omega (arith, few, j) }

  pub field_at : (fs : List Field) (k : ℕ) {f : Field} → map field_of fs ≡ forms_of s → f ≡ get_or fs k (Filled Csd) → field_of f ≡ get_or (forms_at n) k csd_form
  field_at fs k h j = ap field_of j ∙ sym (get_or-map field_of fs k (Filled Csd)) ∙ ap (λ φs. get_or φs k csd_form) (h ∙ forms_same)
