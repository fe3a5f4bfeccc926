-- Which depository a line names, and that a line which is read names the depository of its csd field.
use Rattle.std.proofs.Common.{ℕ, ◌+◌, ◌*◌, ◌-◌, ◌≤◌, ◌≡◌, refl, ap, Bool, true, false, ◌&&◌, List, [], ◌∷◌, Some, arith, eqb, leb, ltb, get_or, eqb-true, leb-true, le-leb, ltb-true}
use mathlib.Core.Bool.{false≢true}
use mathlib.Core.List.{foldl}
use Rattle.tables.specs.Count.{every}
use Rattle.tables.proofs.Counts.{both, ands}
use Rattle.meaning.specs.Text.{decimal}
use Rattle.meaning.specs.Fields.{within, fields}
use Rattle.meaning.specs.Forms.{Form, up_to, code, day, letters, one_of, optional, holds, holds_all, is_number, read, Letter, Shape, shapes, csd_form}
use Rattle.meaning.specs.Records.{◌!◌}
use Rattle.meaning.specs.Reading.{asks, read_all, numbers_read, reading}
use Rattle.meaning.specs.Lone.{names, depository}
use Rattle.meaning.proofs.SameLists.{same_self, same_numbers}
use Rattle.meaning.proofs.Ranges.{given_some, together_some, numbers_parts, numbers_ranged, reading_right}
use Rattle.meaning.proofs.Shapes.{In, every_row}

-- ---- a line names one depository at most

pub names_depository : (c : ℕ) (line : List ℕ) → 1 ≤ c → c ≤ 8 → names c line ≡ true → depository line ≡ c
unfolding names depository
names_depository c line l h e =
    let z : 48 + c - 48 ≡ c = omega arith in
    rw (same_numbers (get_or (fields line) 1 []) ((48 + c) ∷ []) e, le-leb 49 (48 + c) (omega arith), le-leb (48 + c) 56 (omega arith), z)

-- ---- a number from 1 to 8 is one digit

grows : (cs : List ℕ) (n : ℕ) → n ≤ foldl (λ n c. 10 * n + (c - 48)) n cs
grows [] n = omega arith
grows (c ∷ cs) n = omega (arith, grows cs (10 * n + (c - 48)))

one_digit : (f : List ℕ) (n : ℕ) → read csd_form f ≡ Some n → f ≡ (48 + n) ∷ []
unfolding read
one_digit [] n e = absurd (false≢true (given_some (is_number [] && within 1 8 (decimal [])) (decimal []) n e).0)
one_digit (c ∷ []) n e =
    let g = given_some (is_number (c ∷ []) && within 1 8 (decimal (c ∷ []))) (decimal (c ∷ [])) n e in
    let h : ltb 48 c ≡ true = search ands in
    let z : c ≡ 48 + n = omega (arith, g.1, ltb-true 48 c h) in
    rw z
one_digit (c ∷ d ∷ cs) n e =
    let g = given_some (is_number (c ∷ d ∷ cs) && within 1 8 (decimal (c ∷ d ∷ cs))) (decimal (c ∷ d ∷ cs)) n e in
    let h : ltb 48 c ≡ true = search ands in
    let w : leb (decimal (c ∷ d ∷ cs)) 8 ≡ true = search ands in
    absurd (omega (arith, ltb-true 48 c h, leb-true (decimal (c ∷ d ∷ cs)) 8 w, grows cs (10 * (10 * 0 + (c - 48)) + (d - 48))))

-- ---- a line that is read

-- whether a form is the csd's
is_csd : Form → Bool
is_csd (up_to n) = eqb n 8
is_csd code = false
is_csd day = false
is_csd (letters n) = false
is_csd (one_of ws) = false
is_csd (optional φ) = false

csd_first : List Form → Bool
csd_first [] = false
csd_first (φ ∷ φs) = is_csd φ

csd_form_lem : (φ : Form) → is_csd φ ≡ true → φ ≡ csd_form
unfolding is_csd
csd_form_lem (up_to n) e = ap up_to (eqb-true n 8 e)
csd_form_lem code e = absurd (false≢true e)
csd_form_lem day e = absurd (false≢true e)
csd_form_lem (letters n) e = absurd (false≢true e)
csd_form_lem (one_of ws) e = absurd (false≢true e)
csd_form_lem (optional φ) e = absurd (false≢true e)

-- the csd is the first field of every row of the table
csd_first_lem : (s : Shape) → In s shapes → csd_first s.forms ≡ true
unfolding shapes every csd_first is_csd
csd_first_lem s i = every_row (λ s. csd_first s.forms) shapes s refl i

first_read_lem : (φs : List Form) (fs : List (List ℕ)) (v : List ℕ) → csd_first φs ≡ true → read_all φs fs ≡ Some v → get_or fs 0 [] ≡ (48 + v ! 0) ∷ []
unfolding csd_first read_all
first_read_lem [] fs v t e = absurd (false≢true t)
first_read_lem (φ ∷ φs) [] v t e = absurd (let z : ◌≡◌ {A = ℕ} 0 1 = cc in omega arith)
first_read_lem (φ ∷ φs) (f ∷ fs) v t e =
    together_some (read φ f) (read_all φs fs) v e (λ m ms a b z. rw z (one_digit f m (rw (csd_form_lem φ t) at a)))

first_held : (φs : List Form) (v : List ℕ) → csd_first φs ≡ true → holds_all φs v ≡ true → within 1 8 (v ! 0) ≡ true
unfolding csd_first holds_all holds
first_held [] v t e = absurd (false≢true t)
first_held (φ ∷ φs) [] t e = absurd (false≢true e)
first_held (φ ∷ φs) (n ∷ v) t e = rw (csd_form_lem φ t) at (both (holds φ n) (holds_all φs v) e).0

-- its csd is 1 to 8
pub numbers_csd : (line : List ℕ) (l : Letter) (v : List ℕ) → numbers_read line ≡ asks l v → (1 ≤ v ! 0) × (v ! 0 ≤ 8)
numbers_csd line l v e =
    let r = numbers_ranged line l v e in
    let h = first_held r.row.forms v (csd_first_lem r.row r.listed) r.held in
    (leb-true 1 (v ! 0) (search ands), leb-true (v ! 0) 8 (search ands))

-- A line whose numbers are read names the depository of its csd field.
pub numbers_names : (line : List ℕ) (l : Letter) (v : List ℕ) → numbers_read line ≡ asks l v → names (v ! 0) line ≡ true
unfolding names
numbers_names line l v e =
    let p = numbers_parts line l v e in
    rw (p.cut, first_read_lem p.row.forms p.rest v (csd_first_lem p.row p.listed) p.numbers) (same_self ((48 + v ! 0) ∷ []))

pub reading_csd : (line : List ℕ) (l : Letter) (v : List ℕ) → reading line ≡ asks l v → (1 ≤ v ! 0) × (v ! 0 ≤ 8)
reading_csd line l v e = numbers_csd line l v (reading_right line l v e).0

pub reading_names : (line : List ℕ) (l : Letter) (v : List ℕ) → reading line ≡ asks l v → names (v ! 0) line ≡ true
reading_names line l v e = numbers_names line l v (reading_right line l v e).0

pub reading_depository : (line : List ℕ) (l : Letter) (v : List ℕ) → reading line ≡ asks l v → depository line ≡ v ! 0
reading_depository line l v e =
    let r = reading_csd line l v e in
    names_depository (v ! 0) line r.0 r.1 (reading_names line l v e)
