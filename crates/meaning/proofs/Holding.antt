-- What a trainer may say of the status.
use Rattle.std.proofs.Common.{ℕ, zero, suc, ◌+◌, ◌≤◌, ◌<◌, ◌≡◌, refl, ap, sym, ◌∙◌, Bool, true, false, cond, List, [], ◌∷◌, ◌++◌, append_assoc, append-nil, ◌⊎◌, inl, inr, ⊎_elim, Option, Some, None, is_some, arith, leb, length, get_or-append-add, ne_eqb, eqb-true, leb-true}
use mathlib.Core.Bool.{false≢true}
use lib.ListN.{get_or-append, get_or-eq_default}
use Rattle.tables.proofs.Counts.{both}
use Rattle.meaning.specs.Fields.{within, fields}
use Rattle.meaning.specs.Forms.{holds, holds_all, Letter, letter_q, shape_q, shape_q_wishes, shapes}
use Rattle.meaning.specs.Records.{◌!◌, Book, Question, wish_of, command_of, question_in, ask, rejection, validation_hold, party_hold}
use Rattle.meaning.specs.Reading.{Reading, refused, asks, reading}
use Rattle.meaning.specs.Judging.{rejected, verdict, judged, named}
use Rattle.meaning.specs.Status.{is_on, status, carried, answer_to}
use Rattle.meaning.specs.Printing.{text_of, numbers_of, listed, end_of, printed, status_text}
use Rattle.meaning.specs.Exercise.{command_read, type_named, SameTypes}
use Rattle.meaning.specs.Holding.{HeldByRule, WishesDecide, RejectedGivesN, StatusByLength, SameQuestion, StatusLast, StatusStays}
use Rattle.meaning.specs.declared.Deciding.{Deciding}
use Rattle.meaning.specs.declared.Verdict.{Verdict}
use Rattle.meaning.specs.declared.Wishes.{Wishes}
use Rattle.meaning.specs.declared.Answer.TheVariants.{Judged, WithStatus}
use Rattle.meaning.proofs.Shapes.{Ranged, by_rows}
use Rattle.meaning.proofs.Ranges.{holds_length, holds_at, read_all_holds, numbers_parts, reading_right, reading_ranged}
use Rattle.meaning.proofs.ExerciseLines.{question_answered}
use Rattle.meaning.proofs.ExerciseMoved.{elsewhere_types}

-- ---- by the verdict

-- a rejected instruction shows no hold
held_verdict : (b : Book) (q : Question) (w : Wishes) (rejecting validating holding : ℕ)
    → is_on (verdict b q rejecting validating holding).party ≡ true
    → status (verdict b q rejecting validating holding) w ≡ true
unfolding status verdict
held_verdict b q w zero validating holding e = rw e
held_verdict b q w (suc type) validating holding e = absurd (false≢true e)

pub held_by_rule : HeldByRule
unfolding judged
held_by_rule b q w = held_verdict b q w (named b q rejection) (named b q validation_hold) (named b q party_hold)

pub wishes_decide : WishesDecide
unfolding status
wishes_decide v w r e = rw (r, e)

none_where : (t a : Bool) → t ≡ true → cond t false a ≡ false
none_where t a e = rw e

pub rejected_gives_n : RejectedGivesN
unfolding status
rejected_gives_n v w = none_where (rejected v) _

-- a hold is on where a type is named
named_on : (d : Option Deciding) → is_some (type_named d) ≡ is_on d
named_on None = refl
named_on (Some d) = refl

-- whether it is rejected and which type holds decide
same_status : (v u : Verdict) (w : Wishes) → SameTypes v u → status v w ≡ status u w
unfolding status
same_status v u w s = rw (s.rejected, sym (named_on v.party) ∙ ap is_some s.party ∙ named_on u.party)

pub status_stays : StatusStays
status_stays b r new lines m q w = same_status _ _ w (elsewhere_types b r new lines m q)

-- ---- by the line's length

-- the numbers of a question: eleven, and then no default is carried, or thirteen with it
record Numbers (v : List ℕ) (w : Wishes) : Type 0 where
  pub count : (length v ≡ 11) ⊎ (length v ≡ 13)
  pub shorter : length v ≡ 11 → carried w ≡ false
  pub longer : length v ≡ 13 → carried w ≡ true

abbrev Asks : Letter → List ℕ → Type 0
Asks l v = (q : Question) (w : Wishes) → question_in (command_of l v) ≡ Some (q, w) → Numbers v w

-- any other command asks nothing
abbrev Nothing : List ℕ → Type 0
Nothing v = (q : Question) (w : Wishes) → ◌≡◌ {A = Option (Question × Wishes)} None (Some (q, w)) → Numbers v w

none_asked : {v : List ℕ} → Nothing v
none_asked q w e = absurd (let z : ◌≡◌ {A = ℕ} 0 1 = cc in omega arith)

abbrev default_in : Option (Question × Wishes) → Option Bool
default_in None = None
default_in (Some a) = a.1.default

question_numbers : (l : Letter) (v : List ℕ) → Ranged l v → Asks l v
unfolding shapes command_of holds
question_numbers l v r =
    by_rows Asks
    (edit, (edit, (edit, (edit, (edit, (edit, (edit, (edit, (edit, (long, (short, tt)))))))))))
    r
  where
    edit : {A : Type 0} → A → Nothing v
    edit e = none_asked

    -- the default of the numbers
    default_in_lem : (q : Question) (w : Wishes) → question_in (command_of letter_q v) ≡ Some (q, w)
        → w.default ≡ wish_of (v ! 12)
    default_in_lem q w e = sym (ap default_in e)

    short : holds_all shape_q.forms v ≡ true → Asks letter_q v
    short e q w f =
        let n : length v ≡ 11 = holds_length shape_q.forms v e in
        let z : v ! 12 ≡ 0 = get_or-eq_default v 0 {n = 12} (omega arith) in
        record {
          count = inl n;
          shorter = λ k. ap is_some (default_in_lem q w f ∙ ap wish_of z);
          longer = λ k. absurd (omega arith);
        }

    long : holds_all shape_q_wishes.forms v ≡ true → Asks letter_q v
    long e q w f =
        let n : length v ≡ 13 = holds_length shape_q_wishes.forms v e in
        let h : within 1 2 (v ! 12) ≡ true = holds_at shape_q_wishes.forms v e 12 (omega arith) in
        let z : 1 ≤ v ! 12 = leb-true 1 (v ! 12) (both (leb 1 (v ! 12)) (leb (v ! 12) 2) h).0 in
        record {
          count = inr n;
          shorter = λ k. absurd (omega arith);
          longer = λ k. rw (default_in_lem q w f, ne_eqb (v ! 12) 0 (λ y. omega (arith, y, z)));
        }

-- what a line that asks a question has
record Fielded (line : List ℕ) (w : Wishes) : Type 0 where
  pub v : List ℕ
  pub numbers : Numbers v w
  pub count : length (fields line) ≡ suc (length v)

line_numbers : (line : List ℕ) (r : Reading) (q : Question) (w : Wishes) → reading line ≡ r
    → command_read r ≡ Some (ask q w) → Fielded line w
unfolding command_read
line_numbers line (refused r) q w z e = absurd (let y : ◌≡◌ {A = ℕ} 0 1 = cc in omega arith)
line_numbers line (asks l v) q w z e =
    let i : command_of l v ≡ ask q w = cc in
    let p = numbers_parts line l v (reading_right line l v z).0 in
    let h = read_all_holds p.row.forms p.rest v p.numbers in
    let c : length p.rest ≡ length v = eqb-true _ _ p.count ∙ sym (holds_length p.row.forms v h) in
    record {
      v = v;
      numbers = question_numbers l v (reading_ranged line l v z) q w (ap question_in i);
      count = ap length p.cut ∙ ap suc c;
    }

-- the answer to a judged question, by what it carries
pub alone_answer : (v : Verdict) (w : Wishes) → carried w ≡ false → answer_to v w ≡ Judged v
unfolding answer_to
alone_answer v w e = rw e

pub status_answer : (v : Verdict) (w : Wishes) → carried w ≡ true → answer_to v w ≡ WithStatus v (status v w)
unfolding answer_to
status_answer v w e = rw e

pub status_by_length : StatusByLength
status_by_length how b line q w here e =
    let f = line_numbers line (reading line) q w refl e in
    let a = question_answered how b line q w here e in
    let n = f.count in
    record {
      lengths = ⊎_elim (λ k. inl (n ∙ ap suc k)) (λ k. inr (n ∙ ap suc k)) f.numbers.count;
      shorter = λ k. a ∙ alone_answer (judged b q) w (f.numbers.shorter (omega (arith, k, n)));
      longer = λ k. a ∙ status_answer (judged b q) w (f.numbers.longer (omega (arith, k, n)));
    }

-- ---- by its numbers

pub same_question : SameQuestion
unfolding command_of
same_question v i d q w n e =
    let l = i ∷ d ∷ [] in
    let at : (k : ℕ) → k < 11 → (v ++ l) ! k ≡ v ! k = λ k h. get_or-append v l 0 k (omega (arith, n, h)) in
    let end : (k : ℕ) → (v ++ l) ! (11 + k) ≡ l ! k = λ k. ap (λ m. (v ++ l) ! (m + k)) (sym n) ∙ get_or-append-add v l k 0 in
    rw (
      at 1 (omega arith),
      at 2 (omega arith),
      at 3 (omega arith),
      at 4 (omega arith),
      at 5 (omega arith),
      at 6 (omega arith),
      at 7 (omega arith),
      at 8 (omega arith),
      at 9 (omega arith),
      at 10 (omega arith),
      end 0,
      end 1,
    )
    (cc)

-- ---- as printed

pub status_last : StatusLast
unfolding printed text_of numbers_of end_of
status_last v s =
    let t = text_of (Judged v) in
    let n = listed (numbers_of (Judged v)) in
    sym (ap (λ x. (t ++ x) ++ status_text s) (append-nil n) ∙ append_assoc t n (status_text s))
