-- The forms of a field, and the table of letters (document 01, 'Lines'; document 02, request b;
-- for request d the forms that its letters will have). Assumes nothing.
use Rattle.std.specs.Prelude.{ℕ, zero, suc, ◌/◌, ◌%◌, Bool, true, false, not, cond, ◌&&◌, ◌||◌, List, [], ◌∷◌, ◌++◌, leb, ltb, eqb, length, get_or, Option, Some, None}
use Rattle.tables.specs.Count.{every}
use Rattle.meaning.specs.Text.{bytes, same, word, decimal, word_place}
use Rattle.meaning.specs.Fields.{within, is_digit, is_capital}

-- ---- the forms of a field

pub data Form : Type 0 where
  -- a number from 1 to this one
  up_to : ℕ → Form
  -- attribute × 100 + value, each 1 to 99
  code : Form
  -- a real calendar date from 2000 to 2099, as eight digits
  day : Form
  -- so many capital letters
  letters : ℕ → Form
  -- one of these words
  one_of : List (List ℕ) → Form
  -- empty, or of that form
  optional : Form → Form

-- decimal digits without leading zeros
unfoldable pub is_number : List ℕ → Bool
unfolding every
is_number f = ltb 48 (get_or f 0 0) && every is_digit f

abbrev pub is_code : ℕ → Bool
is_code n = within 1 99 (n / 100) && within 1 99 (n % 100)

-- January's length stands at 1
abbrev pub months : List ℕ
months = 0 ∷ 31 ∷ 28 ∷ 31 ∷ 30 ∷ 31 ∷ 30 ∷ 31 ∷ 31 ∷ 30 ∷ 31 ∷ 30 ∷ 31 ∷ []

-- a year is leap when 4 divides it
abbrev pub month_length : ℕ → ℕ → ℕ
month_length year month = cond (eqb month 2 && eqb (year % 4) 0) 29 (get_or months month 0)

abbrev pub is_date : ℕ → ℕ → ℕ → Bool
is_date year month d = within 2000 2099 year && (within 1 12 month && within 1 (month_length year month) d)

-- year × 10000 + month × 100 + day
abbrev pub is_day : ℕ → Bool
is_day n = is_date (n / 10000) (n / 100 % 100) (n % 100)

-- whether a number is that of k capital letters
abbrev pub is_word : ℕ → ℕ → Bool
is_word zero n = eqb n 0
is_word (suc k) n = is_capital (n % 256) && is_word k (n / 256)

-- the number n, if the test passed
abbrev pub given : Bool → ℕ → Option ℕ
given true n = Some n
given false n = None

-- a field's decimal number, if it passes the test
abbrev pub numbered : (ℕ → Bool) → List ℕ → Option ℕ
numbered p f = given (is_number f && p (decimal f)) (decimal f)

-- the number that a field of that form gives: of free letters their word's number, of a choice its place in the list,
-- of an empty field 0
unfoldable pub read : Form → List ℕ → Option ℕ
unfolding is_number every
read (up_to n) f = numbered (within 1 n) f
read code f = numbered is_code f
read day f = given (eqb (length f) 8 && is_number f && is_day (decimal f)) (decimal f)
read (letters n) f = given (eqb (length f) n && every is_capital f) (word f)
read (one_of ws) f = given (leb (word_place f ws) (length ws)) (word_place f ws)
read (optional φ) f = cond (eqb (length f) 0) (Some 0) (read φ f)

-- the numbers that fields of that form give: the range of the form
unfoldable pub holds : Form → ℕ → Bool
holds (up_to m) n = within 1 m n
holds code n = is_code n
holds day n = is_day n
holds (letters k) n = is_word k n
holds (one_of ws) n = within 1 (length ws) n
holds (optional φ) n = eqb n 0 || holds φ n

-- each number by its form, and as many numbers as forms
unfoldable pub holds_all : List Form → List ℕ → Bool
unfolding holds
holds_all [] [] = true
holds_all [] (n ∷ ns) = false
holds_all (φ ∷ φs) [] = false
holds_all (φ ∷ φs) (n ∷ ns) = holds φ n && holds_all φs ns

-- ---- the forms of the table's fields

abbrev pub csd_form : Form
csd_form = up_to 8

abbrev pub type_form : Form
type_form = up_to 99

-- 1 settlement instruction, 2 settlement restriction
abbrev pub object_form : Form
object_form = up_to 2

-- 1 rejection, 2 CSD validation hold, 3 party hold
abbrev pub processing_form : Form
processing_form = up_to 3

abbrev pub sequence_form : Form
sequence_form = up_to 99

-- positive, negative
abbrev pub sign_form : Form
sign_form = one_of (bytes "P" ∷ bytes "N" ∷ [])

-- the sum of the weights of criteria 0 to 9
abbrev pub criteria_form : Form
criteria_form = up_to 1023

-- party, account, security
abbrev pub kind_form : Form
kind_form = one_of (bytes "P" ∷ bytes "A" ∷ bytes "S" ∷ [])

-- of a party, an account or a security
abbrev pub number_form : Form
number_form = up_to 999999

-- 1 CSD, 2 CSD participant, 3 other
abbrev pub party_type_form : Form
party_type_form = up_to 3

abbrev pub movement_form : Form
movement_form = one_of (bytes "DELI" ∷ bytes "RECE" ∷ [])

abbrev pub payment_form : Form
payment_form = one_of (bytes "APMT" ∷ bytes "FREE" ∷ [])

abbrev pub transaction_form : Form
transaction_form = letters 4

abbrev pub currency_form : Form
currency_form = letters 3

-- hold indicator and account default (document 02, request b): yes, no
abbrev pub wish_form : Form
wish_form = one_of (bytes "Y" ∷ bytes "N" ∷ [])

-- of a kept instruction (document 02, request d)
abbrev pub reference_form : Form
reference_form = up_to 9999

-- the ten values of a row: criteria 0 to 9
abbrev pub ten_values : List Form
ten_values =
    optional party_type_form
    ∷ optional movement_form
    ∷ optional payment_form
    ∷ optional transaction_form
    ∷ optional number_form
    ∷ optional number_form
    ∷ optional code
    ∷ optional code
    ∷ optional code
    ∷ optional currency_form
    ∷ []

-- ---- the table of letters

pub data Letter : Type 0 where
  letter_t letter_e letter_r letter_o letter_d letter_m letter_n letter_a letter_z letter_q : Letter

-- the letter as it stands in a line
abbrev pub letter_text : Letter → List ℕ
letter_text letter_t = bytes "T"
letter_text letter_e = bytes "E"
letter_text letter_r = bytes "R"
letter_text letter_o = bytes "O"
letter_text letter_d = bytes "D"
letter_text letter_m = bytes "M"
letter_text letter_n = bytes "N"
letter_text letter_a = bytes "A"
letter_text letter_z = bytes "Z"
letter_text letter_q = bytes "Q"

-- which is one byte
abbrev pub letter_byte : Letter → ℕ
letter_byte l = get_or (letter_text l) 0 0

-- a letter and the forms of the fields after it
pub record Shape : Type 0 where
  pub letter : Letter
  pub forms : List Form

unfoldable pub shape_t : Shape
shape_t = record {
  letter = letter_t;
  forms = csd_form ∷ day ∷ type_form ∷ object_form ∷ processing_form ∷ day ∷ day ∷ [];
}

unfoldable pub shape_e : Shape
shape_e = record { letter = letter_e; forms = csd_form ∷ day ∷ type_form ∷ object_form ∷ day ∷ [] }

unfoldable pub shape_r : Shape
shape_r = record {
  letter = letter_r;
  forms = csd_form ∷ day ∷ type_form ∷ object_form ∷ sequence_form ∷ sign_form ∷ criteria_form ∷ day ∷ day ∷ [];
}

unfoldable pub shape_o : Shape
shape_o = record {
  letter = letter_o;
  forms = csd_form ∷ day ∷ type_form ∷ object_form ∷ sequence_form ∷ sequence_form ∷ [];
}

unfoldable pub shape_d : Shape
shape_d = record { letter = letter_d; forms = csd_form ∷ day ∷ type_form ∷ object_form ∷ sequence_form ∷ [] }

unfoldable pub shape_m : Shape
shape_m = record { letter = letter_m; forms = csd_form ∷ day ∷ type_form ∷ object_form ∷ sequence_form ∷ ten_values }

unfoldable pub shape_n : Shape
shape_n = record { letter = letter_n; forms = csd_form ∷ day ∷ type_form ∷ object_form ∷ sequence_form ∷ ten_values }

unfoldable pub shape_a : Shape
shape_a = record { letter = letter_a; forms = csd_form ∷ day ∷ kind_form ∷ number_form ∷ code ∷ day ∷ day ∷ [] }

unfoldable pub shape_z : Shape
shape_z = record { letter = letter_z; forms = csd_form ∷ day ∷ kind_form ∷ number_form ∷ code ∷ day ∷ day ∷ [] }

-- the nine fields of a question or an instruction, from object to security
abbrev pub nine_forms : List Form
nine_forms =
    object_form
    ∷ party_type_form
    ∷ optional movement_form
    ∷ optional payment_form
    ∷ optional transaction_form
    ∷ optional currency_form
    ∷ number_form
    ∷ number_form
    ∷ number_form
    ∷ []

-- movement and payment are filled for object 1 and empty for object 2
abbrev pub wrongly_filled : ℕ → ℕ → ℕ → Bool
wrongly_filled object movement payment =
    cond (eqb object 1) (eqb movement 0 || eqb payment 0) (not (eqb movement 0 && eqb payment 0))

-- what every question carries
abbrev pub question_forms : List Form
question_forms = csd_form ∷ day ∷ nine_forms

unfoldable pub shape_q : Shape
shape_q = record { letter = letter_q; forms = question_forms }

-- Q with hold indicator and account default, which is always filled (document 02, request b)
unfoldable pub shape_q_wishes : Shape
shape_q_wishes = record { letter = letter_q; forms = question_forms ++ (optional wish_form ∷ wish_form ∷ []) }

-- the table's rows; a letter may have several rows, of different lengths. The shorter Q is last: it is the row of every
-- number past the table (crate `shapes`).
unfoldable pub shapes : List Shape
unfolding shape_t shape_e shape_r shape_o shape_d shape_m shape_n shape_a shape_z shape_q_wishes shape_q
shapes =
    shape_t
    ∷ shape_e
    ∷ shape_r
    ∷ shape_o
    ∷ shape_d
    ∷ shape_m
    ∷ shape_n
    ∷ shape_a
    ∷ shape_z
    ∷ shape_q_wishes
    ∷ shape_q
    ∷ []

-- whether a field is the row's letter
abbrev pub has_letter : List ℕ → Shape → Bool
has_letter f s = same f (letter_text s.letter)

-- whether n fields stand after the row's letter
abbrev pub has_length : ℕ → Shape → Bool
has_length n s = eqb n (length s.forms)

-- the first row that passes a test
unfoldable pub first_shape : (Shape → Bool) → List Shape → Option Shape
first_shape p [] = None
first_shape p (s ∷ ss) = cond (p s) (Some s) (first_shape p ss)
