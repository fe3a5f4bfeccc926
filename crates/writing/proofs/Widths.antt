-- How long what is written gets. `right_fits`: a line of numbers in their forms' ranges fits the space.
use Prim.Native.Nat.{ℕ, zero, suc, ◌+◌, ◌*◌, ◌-◌, ◌/◌, ◌%◌, ◌≤◌, ◌<◌, max}
use mathlib.Core.Path.{◌≡◌, refl, ap}
use mathlib.Core.Bool.{Bool, true, cond}
use mathlib.Core.List.{List, [], ◌∷◌}
use native.Mathlib.Omega.{arith}
use lib.Dec.{leb, ltb}
use lib.ListN.{length, get_or, length-append}
use borrow.Author.Tests.{leb-true, ltb-true, ltb-false, ne_eqb}
use Rattle.tables.proofs.Counts.{cases, both}
use Rattle.meaning.specs.Text.{numeral, spelled}
use Rattle.meaning.specs.Fields.{within}
use Rattle.meaning.specs.Printing.{listed}
use Rattle.meaning.specs.Forms.{Form, up_to, code, day, letters, one_of, optional, holds, holds_all, Shape, shape_q, shapes}
use Rattle.meaning.specs.Writing.{write, write_all, written}
use Rattle.meaning.proofs.Numerals.{numeral_one, numeral_more}
use Rattle.meaning.proofs.Shapes.{Each}
use Rattle.shapes.specs.declared.Shape.{Shape as RowName}
use Rattle.shapes.specs.Table.{row_of}
use Rattle.shapes.specs.Names.{row_named}
use Rattle.shapes.specs.Numbered.{shape_at}
use Rattle.shapes.proofs.NumberRule.{row_of_named}
use Rattle.shapes.proofs.TableRule.{each_row, letter_text_lem}
use Rattle.tables.specs.Count.{every}
use Rattle.writing.specs.Written.{space}

-- ---- how many digits a number has

abbrev ten : ℕ → ℕ
ten zero = 1
ten (suc k) = 10 * ten k

pub few_digits : (k n : ℕ) → n < ten (suc k) → length (numeral n) ≤ suc k
few_digits zero n h = rw (numeral_one n h) (omega arith)
few_digits (suc k) n h =
    cases (ltb n 10)
    (λ e. rw (numeral_one n (ltb-true n 10 e)) (omega arith))
    (λ e.
    rw (numeral_more n (ltb-false n 10 e))
    (omega (arith, length-append (numeral (n / 10)) ((48 + n % 10) ∷ []), few_digits k (n / 10) (omega arith))))

one_more_digit : (n : ℕ) → 10 ≤ n → length (numeral n) ≡ length (numeral (n / 10)) + 1
one_more_digit n h = rw (numeral_more n h) (length-append (numeral (n / 10)) ((48 + n % 10) ∷ []))

-- a smaller number has no more digits; k bounds the steps
no_more_digits : (k n m : ℕ) → m ≤ k → n ≤ m → length (numeral n) ≤ length (numeral m)
no_more_digits zero n m h j = let z : n ≡ m = omega arith in rw z (omega arith)
no_more_digits (suc k) n m h j =
    cases (ltb n 10)
    (λ e. rw (numeral_one n (ltb-true n 10 e)) (some_digit m))
    (λ e.
    let g = ltb-false n 10 e in
    omega (arith, one_more_digit n g, one_more_digit m (omega arith), no_more_digits k (n / 10) (m / 10) (omega arith) (omega arith)))
  where
    some_digit : (m : ℕ) → 1 ≤ length (numeral m)
    some_digit m = cases (ltb m 10) (λ e. rw (numeral_one m (ltb-true m 10 e)) (omega arith)) (λ e. omega (arith, one_more_digit m (ltb-false m 10 e)))

-- numbers of one byte, each behind a comma
pub listed_short : (ns : List ℕ) → Each (λ n. n < 256) ns → length (listed ns) ≤ 4 * length ns
unfolding listed
listed_short [] h = omega arith
listed_short (n ∷ ns) h =
    omega (arith, length-append (numeral n) (listed ns), few_digits 2 n (omega (arith, h.0)), listed_short ns h.1)

-- ---- the most bytes of a field, and of a line

longest : List (List ℕ) → ℕ
longest [] = 0
longest (w ∷ ws) = max (length w) (longest ws)

widest : Form → ℕ
widest (up_to m) = length (numeral m)
widest code = 4
widest day = 8
widest (letters k) = k
widest (one_of ws) = longest ws
widest (optional φ) = widest φ

-- each field behind a comma
total : List Form → ℕ
total [] = 0
total (φ ∷ φs) = 1 + widest φ + total φs

word_short : (ws : List (List ℕ)) (i : ℕ) → length (get_or ws i []) ≤ longest ws
unfolding longest
word_short [] i = omega arith
word_short (w ∷ ws) zero = omega arith
word_short (w ∷ ws) (suc i) = omega (arith, word_short ws i)

spelled_long : (k n : ℕ) → length (spelled k n) ≡ k
spelled_long zero n = refl
spelled_long (suc k) n = omega (arith, length-append (spelled k (n / 256)) (n % 256 ∷ []), spelled_long k (n / 256))

field_short : (φ : Form) (n : ℕ) → holds φ n ≡ true → length (write φ n) ≤ widest φ
unfolding holds write widest
field_short (up_to m) n e = no_more_digits m n m (omega arith) (leb-true n m (both (leb 1 n) (leb n m) e).1)
field_short code n e =
    let b = (both (within 1 99 (n / 100)) (within 1 99 (n % 100)) e).0 in
    let h = leb-true (n / 100) 99 (both (leb 1 (n / 100)) (leb (n / 100) 99) b).1 in
    few_digits 3 n (omega arith)
field_short day n e =
    let b = (both (within 2000 2099 (n / 10000)) _ e).0 in
    let h = leb-true (n / 10000) 2099 (both (leb 2000 (n / 10000)) (leb (n / 10000) 2099) b).1 in
    few_digits 7 n (omega arith)
field_short (letters k) n e = omega (arith, spelled_long k n)
field_short (one_of ws) n e = word_short ws (n - 1)
field_short (optional φ) zero e = omega arith
field_short (optional φ) (suc n) e = field_short φ (suc n) (rw (ne_eqb (suc n) 0 (λ z. omega arith)) at e)

fields_short : (φs : List Form) (ns : List ℕ) → holds_all φs ns ≡ true → length (write_all φs ns) ≤ total φs
unfolding holds_all write_all total
fields_short [] ns e = omega arith
fields_short (φ ∷ φs) [] e = omega arith
fields_short (φ ∷ φs) (n ∷ ns) e =
    let b = both (holds φ n) (holds_all φs ns) e in
    omega (arith, length-append (write φ n) (write_all φs ns), field_short φ n b.0, fields_short φs ns b.1)

fitting : Shape → Bool
fitting s = leb (1 + total s.forms) space

all_fit : every fitting shapes ≡ true
unfolding every shapes fitting total widest longest numeral
all_fit = refl

last_fits : fitting shape_q ≡ true
unfolding shape_q fitting total widest longest numeral
last_fits = refl

-- The line of any row and numbers in the ranges of its forms fits.
pub right_fits : (p : RowName) (ns : List ℕ) → holds_all (row_of p).forms ns ≡ true → length (written (row_of p) ns) ≤ space
unfolding written fitting
right_fits p ns e =
    let f = leb-true (1 + total (row_of p).forms) space (each_row fitting all_fit last_fits p) in
    rw (letter_text_lem p) (omega (arith, f, fields_short (row_of p).forms ns e))

-- The same of a row by its number, whatever the number.
pub right_fits_at : (p : ℕ) (ns : List ℕ) → holds_all (shape_at p).forms ns ≡ true → length (written (shape_at p) ns) ≤ space
right_fits_at p = rw (row_of_named p) at (right_fits (row_named p))

fields_long : (φs : List Form) (ns : List ℕ) → holds_all φs ns ≡ true → length φs ≤ length (write_all φs ns)
unfolding holds_all write_all
fields_long [] ns e = omega arith
fields_long (φ ∷ φs) [] e = absurd (let z : ◌≡◌ {A = ℕ} 0 1 = ap (λ b. cond b 1 0) e in omega arith)
fields_long (φ ∷ φs) (n ∷ ns) e =
    let b = both (holds φ n) (holds_all φs ns) e in
    omega (arith, length-append (write φ n) (write_all φs ns), fields_long φs ns b.1)

-- It has its letter and a comma for each field.
pub right_long : (p : RowName) (ns : List ℕ) → holds_all (row_of p).forms ns ≡ true → length (row_of p).forms < length (written (row_of p) ns)
unfolding written
right_long p ns e = rw (letter_text_lem p) (omega (arith, fields_long (row_of p).forms ns e))

pub right_long_at : (p : ℕ) (ns : List ℕ) → holds_all (shape_at p).forms ns ≡ true → length (shape_at p).forms < length (written (shape_at p) ns)
right_long_at p = rw (row_of_named p) at (right_long (row_named p))
