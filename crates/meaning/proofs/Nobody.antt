-- A line that names no depository is refused 2 to 5, whatever the book.
use Rattle.std.proofs.Common.{ℕ, ◌≤◌, ◌≡◌, refl, sym, ◌∙◌, ◌&&◌, List, [], ◌∷◌, Option, Some, None, arith, length}
use mathlib.Core.Bool.{false≢true}
use Rattle.tables.specs.Count.{has}
use Rattle.tables.proofs.Counts.{cases}
use Rattle.meaning.specs.Fields.{well_made, fields}
use Rattle.meaning.specs.Forms.{Letter, Shape, shapes, has_letter, has_length, first_shape}
use Rattle.meaning.specs.Records.{◌!◌, command_of}
use Rattle.meaning.specs.Reading.{Reading, refused, asks, read_all, by_numbers, by_shape, by_fields, numbers_read, unless_wrong, reading}
use Rattle.meaning.specs.Refusals.{number_of, wrong}
use Rattle.meaning.specs.Lone.{after_reading, step_sent}
use Rattle.meaning.specs.Nobody.{NamesNobody, Unread, NobodyRefused}
use Rattle.meaning.proofs.Names.{reading_csd, reading_names}

-- ---- a line that is not read is refused 2 to 5

-- what is read, or its refusal, which is 2 to 5
abbrev FewRefusals : Reading → Type 0
FewRefusals (refused r) = (2 ≤ number_of r) × (number_of r ≤ 5)
FewRefusals (asks l v) = Unit {0}

few_numbers : (l : Letter) (v : Option (List ℕ)) → FewRefusals (by_numbers l v)
unfolding by_numbers
few_numbers l None = (omega arith, omega arith)
few_numbers l (Some v) = tt

few_shape : (s : Option Shape) (fs : List (List ℕ)) → FewRefusals (by_shape s fs)
unfolding by_shape
few_shape None fs = (omega arith, omega arith)
few_shape (Some s) fs = few_numbers s.letter (read_all s.forms fs)

few_fields : (fs : List (List ℕ)) → FewRefusals (by_fields fs)
unfolding by_fields
few_fields [] = (omega arith, omega arith)
few_fields (f ∷ fs) =
    cases (has (has_letter f) shapes)
    (λ e. rw e (few_shape (first_shape (λ s. has_letter f s && has_length (length fs) s) shapes) fs))
    (λ e. rw e (omega arith, omega arith))

few_read : (line : List ℕ) → FewRefusals (numbers_read line)
unfolding numbers_read
few_read line =
    cases (well_made line) (λ e. rw e (few_fields (fields line))) (λ e. rw e (omega arith, omega arith))

few_right : (r : Reading) → FewRefusals r → FewRefusals (unless_wrong r)
unfolding unless_wrong
few_right (refused r) h = h
few_right (asks l v) h = cases (wrong (command_of l v)) (λ e. rw e (omega arith, omega arith)) (λ e. rw e tt)

few_refusals : (line : List ℕ) → FewRefusals (reading line)
unfolding reading
few_refusals line = few_right (numbers_read line) (few_read line)

-- ---- a line that is read names a depository

unread : (line : List ℕ) → NamesNobody line → (r : Reading) → reading line ≡ r → FewRefusals r → Unread line
unfolding step_sent after_reading
unread line h (refused r) e f = record { refusal = r; low = f.0; high = f.1; everywhere = λ how b. rw e }
unread line h (asks l v) e f =
    let c = reading_csd line l v e in
    absurd (false≢true (sym (h (v ! 0) c.0 c.1) ∙ reading_names line l v e))

pub nobody_refused : NobodyRefused
nobody_refused line h = unread line h (reading line) refl (few_refusals line)
