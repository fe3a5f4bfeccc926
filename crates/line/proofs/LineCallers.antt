-- What a caller of `read_line` learns, from its contract alone. `asked` and `was_refused` are the two cases.
use Prim.Native.Nat.{ℕ, ◌≤◌, ◌<◌}
use mathlib.Core.Path.{◌≡◌, refl, ap}
use mathlib.Core.Bool.{Bool, true, false, cond, ◌&&◌}
use mathlib.Core.List.{List, [], ◌∷◌}
use Rattle.std.specs.Prelude.{Option, Some, None, Ok, Err}
use native.Mathlib.Omega.{arith}
use lib.ListN.{length, get_or}
use Rattle.tables.specs.Count.{has}
use Rattle.tables.specs.Padded.{padded}
use Rattle.tables.proofs.Padding.{padded_at}
use Rattle.meaning.specs.Fields.{well_made, fields}
use Rattle.meaning.specs.Forms.{Letter, Shape, shapes, has_letter, has_length, first_shape}
use Rattle.meaning.specs.Records.{command_of}
use Rattle.meaning.specs.Reading.{Reading, refused, asks, read_all, by_numbers, by_shape, by_fields, numbers_read}
use Rattle.meaning.proofs.Shapes.{Ranged}
use Rattle.meaning.proofs.Ranges.{numbers_ranged}
use Rattle.meaning.proofs.Names.{numbers_csd}
use Rattle.meaning.specs.Forms.{letter_byte}
use Rattle.meaning.specs.declared.Refusal.{Refusal}
use Rattle.meaning.specs.declared.Refusal.TheVariants.{BadLine, NoLetter}
use Rattle.meaning.specs.Refusals.{number_of}
use Rattle.line.specs.Line.{line_of}
use Rattle.line.specs.declared.reading.Line.{Line}
use Rattle.line.proofs.CommandPadding.{command_padded}

-- ---- refusals

-- a refusal is 2 to 5
abbrev Early : Refusal → Type 0
Early r = (2 ≤ number_of r) × (number_of r ≤ 5)

Known : Reading → Type 0
Known (refused r) = Early r
Known (asks l ns) = Unit {0}

known_cond : (t : Bool) (y z : Reading) → Known y → Known z → Known (cond t y z)
known_cond true y z k m = k
known_cond false y z k m = m

known_numbers : (l : Letter) (ns : Option (List ℕ)) → Known (by_numbers l ns)
unfolding Known by_numbers
known_numbers l None = (omega arith, omega arith)
known_numbers l (Some ns) = tt

known_shape : (o : Option Shape) (fs : List (List ℕ)) → Known (by_shape o fs)
unfolding Known by_shape
known_shape None fs = (omega arith, omega arith)
known_shape (Some s) fs = known_numbers s.letter (read_all s.forms fs)

known_fields : (fs : List (List ℕ)) → Known (by_fields fs)
unfolding Known by_fields
known_fields [] = (omega arith, omega arith)
known_fields (f ∷ fs) =
    let o = first_shape (λ s. has_letter f s && has_length (length fs) s) shapes in
    known_cond (has (has_letter f) shapes) (by_shape o fs) (refused NoLetter) (known_shape o fs) (omega arith, omega arith)

known : (line : List ℕ) → Known (numbers_read line)
unfolding Known numbers_read
known line =
    known_cond (well_made line) (by_fields (fields line)) (refused BadLine) (known_fields (fields line)) (omega arith, omega arith)

-- ---- a line that is read

-- The letter and the numbers that the meaning reads, in the ranges of a row of the table. The sixteen values are the
-- numbers and zeros after them, and ask what the numbers ask.
pub record Asked (line : List ℕ) (r : Line) : Type 0 where
  pub letter : Letter
  pub numbers : List ℕ
  pub whole : numbers_read line ≡ asks letter numbers
  pub byte : r.letter ≡ letter_byte letter
  pub values : r.values ≡ padded 16 numbers
  pub ranged : Ranged letter numbers
  pub at : (k : ℕ) → k < 16 → get_or r.values k 0 ≡ get_or numbers k 0
  pub command : command_of letter r.values ≡ command_of letter numbers
  pub csd_low : 1 ≤ get_or r.values 0 0
  pub csd_high : get_or r.values 0 0 ≤ 8

asked_with : (line : List ℕ) (r : Line) (l : Letter) (ns : List ℕ) → numbers_read line ≡ asks l ns → r.letter ≡ letter_byte l → r.values ≡ padded 16 ns → Asked line r
asked_with line r l ns e b v =
    let same : (k : ℕ) → k < 16 → get_or r.values k 0 ≡ get_or ns k 0 = λ k h. rw v (padded_at 16 ns k h) in
    let csd = numbers_csd line l ns e in
    record {
      letter = l;
      numbers = ns;
      whole = e;
      byte = b;
      values = v;
      ranged = numbers_ranged line l ns e;
      at = same;
      command = rw v (command_padded l ns);
      csd_low = omega (arith, same 0 (omega arith), csd.0);
      csd_high = omega (arith, same 0 (omega arith), csd.1);
    }

by_reading : (line : List ℕ) (r : Line) (y : Reading) → numbers_read line ≡ y → Ok r ≡ line_of y → Asked line r
unfolding line_of
by_reading line r (refused e) q z = cc
by_reading line r (asks l ns) q z =
    let same : r ≡ record { letter = letter_byte l; values = padded 16 ns } = cc in
    asked_with line r l ns q (ap (λ x. x.letter) same) (ap (λ x. x.values) same)

pub asked : (line : List ℕ) {r : Line} → Ok r ≡ line_of (numbers_read line) → Asked line r
asked line {r} q = by_reading line r (numbers_read line) refl q

-- ---- a line that is refused

pub record WasRefused (line : List ℕ) (e : Refusal) : Type 0 where
  pub whole : numbers_read line ≡ refused e
  pub low : 2 ≤ number_of e
  pub high : number_of e ≤ 5

refused_reading : (line : List ℕ) (e : Refusal) (y : Reading) → numbers_read line ≡ y → Known y → Err e ≡ line_of y → WasRefused line e
unfolding Known line_of
refused_reading line e (refused r) q k z =
    let same : e ≡ r = cc in
    rw same (record { whole = q; low = k.0; high = k.1 })
refused_reading line e (asks l ns) q k z = cc

pub was_refused : (line : List ℕ) {e : Refusal} → Err e ≡ line_of (numbers_read line) → WasRefused line e
was_refused line {e} q = refused_reading line e (numbers_read line) refl (known line) q
