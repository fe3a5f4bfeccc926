-- What is read of a line is in document 01's ranges: the number of a field is in its form's range, and what a command
-- would put into a book fits.
use Rattle.std.proofs.Common.{ℕ, zero, suc, ◌+◌, ◌*◌, ◌/◌, ◌%◌, ◌≤◌, ◌<◌, ◌≡◌, refl, ap, sym, Bool, true, false, ◌&&◌, ◌||◌, List, [], ◌∷◌, Option, Some, None, arith, eqb, leb, ltb, length, get_or, eqb-true, eq-eqb, leb-true, le-leb, ltb-false}
use mathlib.Core.Bool.{or-true, false≢true}
use mathlib.Core.List.{foldl}
use Rattle.tables.specs.Count.{has, every}
use Rattle.tables.proofs.Counts.{cases, both, neither, and_r}
use Rattle.meaning.specs.Text.{same, word_place, word, decimal}
use Rattle.meaning.specs.Fields.{within, is_capital, well_made, fields}
use Rattle.meaning.specs.Forms.{Form, up_to, code, day, letters, one_of, optional, is_number, is_code, is_day, is_word, given, read, holds, holds_all, Letter, Shape, shape_t, shape_e, shape_r, shape_o, shape_m, shape_a, shape_z, shapes, has_letter, has_length, first_shape}
use Rattle.meaning.specs.declared.Refusal.{Refusal}
use Rattle.meaning.specs.declared.Refusal.TheVariants.{BadLine, NoLetter, FieldCount, BadField}
use Rattle.meaning.specs.Reading.{together, read_all, Reading, refused, asks, by_numbers, by_shape, by_fields, numbers_read, unless_wrong, reading}
use Rattle.meaning.specs.Refusals.{wrong}
use Rattle.meaning.specs.Records.{◌!◌, command_of}
use Rattle.meaning.specs.Sound.{days_fit, key_fits, type_fits, rule_fits, row_fits, period_fits}
use Rattle.meaning.specs.Edits.{fits}
use Rattle.meaning.proofs.Shapes.{In, Ranged, by_rows, first_found}

pub given_some : (t : Bool) (n m : ℕ) → given t n ≡ Some m → (t ≡ true) × (n ≡ m)
given_some true n m e = (refl, cc)
given_some false n m e = absurd (let z : ◌≡◌ {A = ℕ} 0 1 = cc in omega arith)

-- A capital letter behind a word of j letters makes one of j + 1.
word_more : (j n c : ℕ) → is_capital c ≡ true → is_word j n ≡ true → is_word (suc j) (256 * n + c) ≡ true
word_more j n c e h =
    let b = leb-true c 90 (and_r (leb 65 c) (leb c 90) e) in
    let r : (256 * n + c) % 256 ≡ c = omega arith in
    let d : (256 * n + c) / 256 ≡ n = omega arith in
    rw (r, d, e) h

word_all : (cs : List ℕ) (j n : ℕ) → every is_capital cs ≡ true → is_word j n ≡ true → is_word (j + length cs) (foldl (λ n c. 256 * n + c) n cs) ≡ true
unfolding every
word_all [] j n e h = let z : j + 0 ≡ j = omega arith in rw z h
word_all (c ∷ cs) j n e h =
    let b = both (is_capital c) (every is_capital cs) e in
    let z : j + suc (length cs) ≡ suc j + length cs = omega arith in
    rw z (word_all cs (suc j) (256 * n + c) b.1 (word_more j n c b.0 h))

word_place_low : (f : List ℕ) (ws : List (List ℕ)) → 1 ≤ word_place f ws
word_place_low f [] = omega arith
word_place_low f (w ∷ ws) = cases (same f w) (λ e. rw e (omega arith)) (λ e. rw e (omega arith))

or_l : (s t : Bool) → s ≡ true → (s || t) ≡ true
or_l s t e = rw e

pub read_holds : (φ : Form) (f : List ℕ) (n : ℕ) → read φ f ≡ Some n → holds φ n ≡ true
unfolding read holds
read_holds (up_to m) f n e =
    let g = given_some (is_number f && within 1 m (decimal f)) (decimal f) n e in
    rw (← g.1) (and_r (is_number f) (within 1 m (decimal f)) g.0)
read_holds code f n e =
    let g = given_some (is_number f && is_code (decimal f)) (decimal f) n e in
    rw (← g.1) (and_r (is_number f) (is_code (decimal f)) g.0)
read_holds day f n e =
    let g = given_some (eqb (length f) 8 && is_number f && is_day (decimal f)) (decimal f) n e in
    rw (← g.1) (and_r (eqb (length f) 8 && is_number f) (is_day (decimal f)) g.0)
read_holds (letters k) f n e =
    let g = given_some (eqb (length f) k && every is_capital f) (word f) n e in
    let b = both (eqb (length f) k) (every is_capital f) g.0 in
    let z : 0 + length f ≡ length f = omega arith in
    rw (← g.1, ← (eqb-true (length f) k b.0)) (rw z at (word_all f 0 0 b.1 refl))
read_holds (one_of ws) f n e =
    let g = given_some (leb (word_place f ws) (length ws)) (word_place f ws) n e in
    rw (← g.1, le-leb 1 (word_place f ws) (word_place_low f ws)) g.0
read_holds (optional φ) f n e =
    cases (eqb (length f) 0)
    (λ z. or_l (eqb n 0) (holds φ n) (eq-eqb n 0 (sym (given_some true 0 n (rw z at e)).1)))
    (λ z. rw (read_holds φ f n (rw z at e)) (or-true (eqb n 0)))

pub together_some : (a : Option ℕ) (b : Option (List ℕ)) (ns : List ℕ) {G : Type 0} → together a b ≡ Some ns → ((m : ℕ) (ms : List ℕ) → a ≡ Some m → b ≡ Some ms → ns ≡ m ∷ ms → G) → G
together_some None b ns e k = absurd (let z : ◌≡◌ {A = ℕ} 0 1 = cc in omega arith)
together_some (Some m) None ns e k = absurd (let z : ◌≡◌ {A = ℕ} 0 1 = cc in omega arith)
together_some (Some m) (Some ms) ns e k = k m ms refl refl (cc)

pub read_all_holds : (φs : List Form) (fs : List (List ℕ)) (ns : List ℕ) → read_all φs fs ≡ Some ns → holds_all φs ns ≡ true
unfolding read_all holds_all
read_all_holds [] fs ns e = let z : ns ≡ [] = cc in rw z
read_all_holds (φ ∷ φs) [] ns e = absurd (let z : ◌≡◌ {A = ℕ} 0 1 = cc in omega arith)
read_all_holds (φ ∷ φs) (f ∷ fs) ns e =
    together_some (read φ f) (read_all φs fs) ns e
    (λ m ms a b z. rw (z, read_holds φ f m a, read_all_holds φs fs ms b))

-- ---- commands

pub holds_length : (φs : List Form) (ns : List ℕ) → holds_all φs ns ≡ true → length ns ≡ length φs
unfolding holds_all
holds_length [] [] e = refl
holds_length [] (n ∷ ns) e = absurd (false≢true e)
holds_length (φ ∷ φs) [] e = absurd (false≢true e)
holds_length (φ ∷ φs) (n ∷ ns) e = ap suc (holds_length φs ns (both (holds φ n) (holds_all φs ns) e).1)

pub holds_at : (φs : List Form) (ns : List ℕ) → holds_all φs ns ≡ true → (i : ℕ) → i < length φs → holds (get_or φs i day) (ns ! i) ≡ true
unfolding holds_all
holds_at [] ns e i l = absurd (omega arith)
holds_at (φ ∷ φs) [] e i l = absurd (false≢true e)
holds_at (φ ∷ φs) (n ∷ ns) e zero l = (both (holds φ n) (holds_all φs ns) e).0
holds_at (φ ∷ φs) (n ∷ ns) e (suc i) l = holds_at φs ns (both (holds φ n) (holds_all φs ns) e).1 i (omega arith)

not_after : (a b : ℕ) → ltb b a ≡ false → leb a b ≡ true
not_after a b e = le-leb a b (ltb-false b a e)

-- numbers that a row's forms hold make a command that fits, unless it is wrong
abbrev Fits : List ℕ → Shape → Type 0
Fits v s = holds_all s.forms v ≡ true → wrong (command_of s.letter v) ≡ false → fits (command_of s.letter v) ≡ true

-- So do the numbers of any line, row by row.
pub command_fits : (l : Letter) (v : List ℕ) → Ranged l v → wrong (command_of l v) ≡ false → fits (command_of l v) ≡ true
unfolding shapes command_of wrong fits type_fits rule_fits row_fits period_fits key_fits days_fit
command_fits l v r =
    by_rows (λ l v. wrong (command_of l v) ≡ false → fits (command_of l v) ≡ true)
    (fits_t, (fits_e, (fits_r, (fits_o, ((λ e w. refl), (fits_m, ((λ e w. refl), (fits_a, (fits_z, ((λ e w. refl), ((λ e w. refl), tt)))))))))))
    r
  where
    fits_t : Fits v shape_t
    fits_t e w =
        let h = holds_at shape_t.forms v e in
        let n = neither (eqb (v ! 4) 3 && eqb (v ! 3) 2) (ltb (v ! 6) (v ! 5)) w in
        rw (h 2 (omega arith), h 3 (omega arith), h 4 (omega arith), n.0, h 5 (omega arith), h 6 (omega arith))
        (not_after (v ! 5) (v ! 6) n.1)

    fits_e : Fits v shape_e
    fits_e e w = holds_at shape_e.forms v e 4 (omega arith)

    fits_r : Fits v shape_r
    fits_r e w =
        let h = holds_at shape_r.forms v e in
        rw (
          h 2 (omega arith),
          h 3 (omega arith),
          h 4 (omega arith),
          h 5 (omega arith),
          h 6 (omega arith),
          h 7 (omega arith),
          h 8 (omega arith),
        )
        (not_after (v ! 7) (v ! 8) w)

    fits_o : Fits v shape_o
    fits_o e w = holds_at shape_o.forms v e 5 (omega arith)

    fits_m : Fits v shape_m
    fits_m e w =
        let h = holds_at shape_m.forms v e in
        rw (
          h 2 (omega arith),
          h 3 (omega arith),
          h 4 (omega arith),
          h 5 (omega arith),
          h 6 (omega arith),
          h 7 (omega arith),
          h 8 (omega arith),
          h 9 (omega arith),
          h 10 (omega arith),
          h 11 (omega arith),
          h 12 (omega arith),
          h 13 (omega arith),
          h 14 (omega arith),
        )

    fits_a : Fits v shape_a
    fits_a e w =
        let h = holds_at shape_a.forms v e in
        rw (h 2 (omega arith), h 3 (omega arith), h 4 (omega arith), h 5 (omega arith), h 6 (omega arith))
        (not_after (v ! 5) (v ! 6) w)

    fits_z : Fits v shape_z
    fits_z e w = holds_at shape_z.forms v e 6 (omega arith)

-- ---- lines

no_reading : {G : Type 0} (r : Refusal) (l : Letter) (v : List ℕ) → refused r ≡ asks l v → G
no_reading r l v e = absurd (let z : ◌≡◌ {A = ℕ} 0 1 = cc in omega arith)

-- What a line that is read has: a first field, which is the letter of a row of the table, and fields after it that give
-- its numbers by the row's forms.
pub record Parts (line : List ℕ) (l : Letter) (v : List ℕ) : Type 0 where
  pub head : List ℕ
  pub rest : List (List ℕ)
  pub cut : fields line ≡ head ∷ rest
  pub row : Shape
  pub listed : In row shapes
  pub letter : row.letter ≡ l
  pub first : has_letter head row ≡ true
  pub count : has_length (length rest) row ≡ true
  pub numbers : read_all row.forms rest ≡ Some v

by_numbers_lem : (l' l : Letter) (o : Option (List ℕ)) (v : List ℕ) → by_numbers l' o ≡ asks l v → (l' ≡ l) × (o ≡ Some v)
unfolding by_numbers
by_numbers_lem l' l None v e = no_reading BadField l v e
by_numbers_lem l' l (Some v') v e = let x : l' ≡ l = cc in let y : v' ≡ v = cc in (x, ap Some y)

by_shape_lem : {G : Type 0} (o : Option Shape) (l : Letter) (fs : List (List ℕ)) (v : List ℕ) → by_shape o fs ≡ asks l v
    → ((s : Shape) → o ≡ Some s → s.letter ≡ l → read_all s.forms fs ≡ Some v → G) → G
unfolding by_shape
by_shape_lem None l fs v e k = no_reading FieldCount l v e
by_shape_lem (Some s) l fs v e k = let p = by_numbers_lem s.letter l (read_all s.forms fs) v e in k s refl p.0 p.1

by_fields_lem : (line : List ℕ) (fs : List (List ℕ)) (l : Letter) (v : List ℕ) → fields line ≡ fs → by_fields fs ≡ asks l v → Parts line l v
unfolding by_fields
by_fields_lem line [] l v c e = no_reading NoLetter l v e
by_fields_lem line (f ∷ fs) l v c e =
    cases (has (has_letter f) shapes)
    (λ t.
    by_shape_lem (first_shape (λ s. has_letter f s && has_length (length fs) s) shapes) l fs v (rw t at e)
    (λ s o a b.
    let p = first_found (λ s. has_letter f s && has_length (length fs) s) shapes s o in
    let d = both (has_letter f s) (has_length (length fs) s) p.0 in
    record { head = f; rest = fs; cut = c; row = s; listed = p.1; letter = a; first = d.0; count = d.1; numbers = b }))
    (λ t. no_reading NoLetter l v (rw t at e))

pub numbers_parts : (line : List ℕ) (l : Letter) (v : List ℕ) → numbers_read line ≡ asks l v → Parts line l v
unfolding numbers_read
numbers_parts line l v e =
    cases (well_made line) (λ t. by_fields_lem line (fields line) l v refl (rw t at e)) (λ t. no_reading BadLine l v (rw t at e))

-- Its numbers are in their forms' ranges.
pub numbers_ranged : (line : List ℕ) (l : Letter) (v : List ℕ) → numbers_read line ≡ asks l v → Ranged l v
numbers_ranged line l v e =
    let p = numbers_parts line l v e in
    record { row = p.row; listed = p.listed; letter = p.letter; held = read_all_holds p.row.forms p.rest v p.numbers }

right_numbers : (y : Reading) (l : Letter) (v : List ℕ) → unless_wrong y ≡ asks l v → (y ≡ asks l v) × (wrong (command_of l v) ≡ false)
unfolding unless_wrong
right_numbers (refused r) l v e = no_reading r l v e
right_numbers (asks l' v') l v e =
    cases (wrong (command_of l' v'))
    (λ w. no_reading BadField l v (rw w at e))
    (λ w.
    let f = rw w at e in
    let x : l' ≡ l = cc in
    let y : v' ≡ v = cc in
    (f, rw (← x, ← y) w))

-- A line that is read has its numbers read, and they are not wrong.
pub reading_right : (line : List ℕ) (l : Letter) (v : List ℕ) → reading line ≡ asks l v → (numbers_read line ≡ asks l v) × (wrong (command_of l v) ≡ false)
unfolding reading
reading_right line l v e = right_numbers (numbers_read line) l v e

pub reading_ranged : (line : List ℕ) (l : Letter) (v : List ℕ) → reading line ≡ asks l v → Ranged l v
reading_ranged line l v e = numbers_ranged line l v (reading_right line l v e).0

-- What it would put into a book fits.
pub reading_fits : (line : List ℕ) (l : Letter) (v : List ℕ) → reading line ≡ asks l v → fits (command_of l v) ≡ true
reading_fits line l v e = command_fits l v (reading_ranged line l v e) (reading_right line l v e).1
