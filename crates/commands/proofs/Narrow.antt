-- A command whose one-byte fields are below 256 is coded as itself, and so is what is read of a line.
use Prim.Native.Nat.{ℕ, ◌%◌, ◌<◌}
use mathlib.Core.Path.{◌≡◌, refl, ap, sym, ◌∙◌}
use mathlib.Core.Bool.{true}
use mathlib.Core.List.{List, ◌∷◌}
use Rattle.std.specs.Prelude.{Option, Some, None}
use native.Mathlib.Omega.{arith}
use lib.ListN.{length, get_or}
use borrow.Author.Tests.{leb-true}
use Rattle.tables.proofs.Counts.{ands}
use Rattle.meaning.specs.Fields.{within}
use Rattle.meaning.specs.Forms.{Form, holds, holds_all, day, csd_form, type_form, object_form, sequence_form, Letter, Shape, shapes, shape_t, shape_e, shape_r, shape_o, shape_d, shape_m, shape_n, shape_a, shape_z, shape_q_wishes, shape_q}
use Rattle.meaning.specs.Records as M
use Rattle.meaning.specs.Records.{◌!◌, command_of, question_in}
use Rattle.meaning.specs.declared.Wishes.{Wishes}
use Rattle.meaning.proofs.Shapes.{Ranged, by_rows}
use Rattle.meaning.proofs.Ranges.{holds_at}
use Rattle.records.specs.Said.{type_of, rule_of, row_of, period_of}
use Rattle.commands.specs.Asked.{question_of, asked_by, asked, question_asked, question_on, what_of, coded}
use Rattle.commands.specs.declared.Question.{Question}
use Rattle.commands.specs.declared.What.{What}

-- The numbers of a key: type, object and sequence.
abbrev Key : ℕ → ℕ → ℕ → Type 0
Key type object sequence = (type < 256) × (object < 256) × (sequence < 256)

-- The day is the command's, and what stands in one byte is below 256.
abbrev pub Narrow : ℕ → M.Command → Type 0
Narrow d (M.add_type e t) = (e ≡ d) × (t.type < 256) × (t.object < 256) × (t.processing < 256)
Narrow d (M.end_type e type object last) = (e ≡ d) × (type < 256) × (object < 256)
Narrow d (M.add_rule e r) = (e ≡ d) × Key r.type r.object r.sequence × (r.sign < 256)
Narrow d (M.reorder type object sequence new) = Key type object sequence × (new < 256)
Narrow d (M.delete_rule type object sequence) = Key type object sequence
Narrow d (M.add_row w) = Key w.type w.object w.sequence
Narrow d (M.delete_row w) = Key w.type w.object w.sequence
Narrow d (M.add_period e p) = (e ≡ d) × (p.kind < 256)
Narrow d (M.end_period e kind number code first last) = (e ≡ d) × (kind < 256)
Narrow d (M.ask q x) = (q.object < 256)

pub low_same : (n : ℕ) → n < 256 → n % 256 ≡ n
low_same n l = omega arith

pub asked_coded : (c d : ℕ) (k : M.Command) → Narrow d k → asked (coded c d k) ≡ k
unfolding coded asked_by type_of rule_of row_of period_of
asked_coded c d (M.add_type e t) (f, n, o, p) =
    rw (f, low_same t.type n, low_same t.object o, low_same t.processing p)
asked_coded c d (M.end_type e type object last) (f, n, o) = rw (f, low_same type n, low_same object o)
asked_coded c d (M.add_rule e r) (f, (n, o, s), g) =
    rw (f, low_same r.type n, low_same r.object o, low_same r.sequence s, low_same r.sign g)
asked_coded c d (M.reorder type object sequence new) ((n, o, s), x) =
    rw (low_same type n, low_same object o, low_same sequence s, low_same new x)
asked_coded c d (M.delete_rule type object sequence) (n, o, s) =
    rw (low_same type n, low_same object o, low_same sequence s)
asked_coded c d (M.add_row w) (n, o, s) = rw (low_same w.type n, low_same w.object o, low_same w.sequence s)
asked_coded c d (M.delete_row w) (n, o, s) = rw (low_same w.type n, low_same w.object o, low_same w.sequence s)
asked_coded c d (M.add_period e p) (f, k) = rw (f, low_same p.kind k)
asked_coded c d (M.end_period e kind number code first last) (f, k) = rw (f, low_same kind k)
asked_coded c d (M.ask q x) o = rw (low_same q.object o)

-- a question of the meaning's as depository c's
abbrev pub as_on : ℕ → Option (M.Question × Wishes) → Option (Question × Wishes)
as_on c None = None
as_on c (Some (q, x)) = Some (question_on c q, x)

pub question_coded : (c : ℕ) (k : M.Command) → question_asked (what_of c k) ≡ as_on c (question_in k)
unfolding what_of
question_coded c (M.add_type e t) = refl
question_coded c (M.end_type e type object last) = refl
question_coded c (M.add_rule e r) = refl
question_coded c (M.reorder type object sequence new) = refl
question_coded c (M.delete_rule type object sequence) = refl
question_coded c (M.add_row w) = refl
question_coded c (M.delete_row w) = refl
question_coded c (M.add_period e p) = refl
question_coded c (M.end_period e kind number code first last) = refl
question_coded c (M.ask q x) = refl

-- a question as the meaning's
abbrev pub as_meant : Option (Question × Wishes) → Option (M.Question × Wishes)
as_meant None = None
as_meant (Some (q, x)) = Some (question_of q, x)

pub asked_question : (d : ℕ) (x : What) → question_in (asked_by d x) ≡ as_meant (question_asked x)
unfolding asked_by
asked_question d (What.AddType t) = refl
asked_question d (What.EndType k last) = refl
asked_question d (What.AddRule r) = refl
asked_question d (What.Reorder k new) = refl
asked_question d (What.DeleteRule k) = refl
asked_question d (What.AddRow w) = refl
asked_question d (What.DeleteRow w) = refl
asked_question d (What.AddPeriod p) = refl
asked_question d (What.EndPeriod p) = refl
asked_question d (What.Ask q x) = refl

-- What the code's test for a question leaves asks no question.
pub not_asked : (x : What) → ((q : Question) (w : Wishes) → x ≡ What.Ask q w → ⊥) → question_asked x ≡ None
not_asked (What.AddType t) k = refl
not_asked (What.EndType n last) k = refl
not_asked (What.AddRule r) k = refl
not_asked (What.Reorder n new) k = refl
not_asked (What.DeleteRule n) k = refl
not_asked (What.AddRow w) k = refl
not_asked (What.DeleteRow w) k = refl
not_asked (What.AddPeriod p) k = refl
not_asked (What.EndPeriod p) k = refl
not_asked (What.Ask q x) k = absurd (k q x refl)

-- The question of a command whose one-byte fields are below 256 is coded as itself.
pub question_same : (c d : ℕ) (k : M.Command) → Narrow d k → as_meant (as_on c (question_in k)) ≡ question_in k
unfolding coded
question_same c d k n =
    ap as_meant (sym (question_coded c k)) ∙ sym (asked_question d (what_of c k))
    ∙ ap question_in (asked_coded c d k n)

-- ---- the numbers of a letter's fields, each in its form's range

below : (m n : ℕ) → m < 256 → within 1 m n ≡ true → n < 256
below m n l e = omega (arith, leb-true n m (search ands))

-- by a row's forms
abbrev Read : List ℕ → Shape → Type 0
Read v s = holds_all s.forms v ≡ true → Narrow (v ! 1) (command_of s.letter v)

pub narrow_read : (l : Letter) (v : List ℕ) → Ranged l v → Narrow (v ! 1) (command_of l v)
unfolding shapes command_of holds
narrow_read l v r =
    by_rows (λ l v. Narrow (v ! 1) (command_of l v))
    (read_t, (read_e, (read_r, (read_o, (read_d, (read_m, (read_n, (read_a, (read_z, (read_qw, (read_q, tt)))))))))))
    r
  where
    -- the number at a place, whose form is from 1 to m
    byte : (φs : List Form) (i m : ℕ) → holds_all φs v ≡ true → i < length φs
        → holds (get_or φs i day) (v ! i) ≡ within 1 m (v ! i) → m < 256 → v ! i < 256
    byte φs i m e l f k = below m (v ! i) k (sym f ∙ holds_at φs v e i l)

    -- the key of a rule, behind the csd and the day, whatever follows
    key : (φs : List Form) → holds_all (csd_form ∷ day ∷ type_form ∷ object_form ∷ sequence_form ∷ φs) v ≡ true
        → Key (v ! 2) (v ! 3) (v ! 4)
    key φs e =
        let all : List Form = csd_form ∷ day ∷ type_form ∷ object_form ∷ sequence_form ∷ φs in (
          byte all 2 99 e (omega arith) refl (omega arith),
          byte all 3 2 e (omega arith) refl (omega arith),
          byte all 4 99 e (omega arith) refl (omega arith),
        )

    read_t : Read v shape_t
    read_t e = (
      refl,
      byte shape_t.forms 2 99 e (omega arith) refl (omega arith),
      byte shape_t.forms 3 2 e (omega arith) refl (omega arith),
      byte shape_t.forms 4 3 e (omega arith) refl (omega arith),
    )

    read_e : Read v shape_e
    read_e e = (
      refl,
      byte shape_e.forms 2 99 e (omega arith) refl (omega arith),
      byte shape_e.forms 3 2 e (omega arith) refl (omega arith),
    )

    read_r : Read v shape_r
    read_r e = (refl, key _ e, byte shape_r.forms 5 2 e (omega arith) refl (omega arith))

    read_o : Read v shape_o
    read_o e = (key _ e, byte shape_o.forms 5 99 e (omega arith) refl (omega arith))

    read_d : Read v shape_d
    read_d e = key _ e

    read_m : Read v shape_m
    read_m e = key _ e

    read_n : Read v shape_n
    read_n e = key _ e

    read_a : Read v shape_a
    read_a e = (refl, byte shape_a.forms 2 3 e (omega arith) refl (omega arith))

    read_z : Read v shape_z
    read_z e = (refl, byte shape_z.forms 2 3 e (omega arith) refl (omega arith))

    read_qw : Read v shape_q_wishes
    read_qw e = byte shape_q_wishes.forms 2 2 e (omega arith) refl (omega arith)

    read_q : Read v shape_q
    read_q e = byte shape_q.forms 2 2 e (omega arith) refl (omega arith)
