-- Fields written one after the other are the line that the meaning writes.
use Prim.Native.Nat.{ℕ}
use mathlib.Core.Path.{◌≡◌, refl, ap, ◌∙◌}
use native.Mathlib.Omega.{arith}
use mathlib.Core.Logic.{◌⊎◌, inl, inr}
use lib.ListN.{length}
use mathlib.Core.List.{List, [], ◌∷◌, map}
use Rattle.meaning.specs.Forms.{letter_byte}
use Rattle.meaning.specs.Writing.{write, write_all, written}
use Rattle.shapes.specs.declared.Shape.{Shape as RowName}
use Rattle.shapes.specs.declared.Field.{Field}
use Rattle.shapes.specs.Table.{field_of, row_of, forms_of}
use Rattle.shapes.proofs.TableRule.{letter_text_lem}
use Rattle.writing.specs.Written.{added, added_all, written_as}
use Rattle.writing.proofs.Texts.{then, all_taken}

-- ---- the fields

-- what is written, with the fields and numbers that are left, gives the whole
pub record FieldsTo (w : List ℕ) (fs : List Field) (ns : List ℕ) (v : List ℕ) (gs : List Field) (ms : List ℕ) : Type 0 where
  pub left : added_all v (write_all (map field_of gs) ms) ≡ added_all w (write_all (map field_of fs) ns)

pub fields_next : {w v u : List ℕ} {fs gs hs : List Field} {ns ms ks : List ℕ} (f : Field) (n : ℕ) → FieldsTo w fs ns v gs ms
    → gs ≡ f ∷ hs → ms ≡ n ∷ ks → u ≡ added_all v (44 ∷ write (field_of f) n) → FieldsTo w fs ns u hs ks
unfolding write_all
fields_next f n r a b e = record { left = rw (e, then) (rw (a, b) at r.left) }

nothing_left : (gs : List Field) (ms : List ℕ) → (length gs ≡ 0) ⊎ (length ms ≡ 0) → write_all (map field_of gs) ms ≡ []
unfolding write_all
nothing_left [] ms e = refl
nothing_left (g ∷ gs) [] e = refl
nothing_left (g ∷ gs) (m ∷ ms) (inl e) = absurd (omega arith)
nothing_left (g ∷ gs) (m ∷ ms) (inr e) = absurd (omega arith)

-- no fields or no numbers are left
pub fields_end : {w v : List ℕ} {fs gs : List Field} {ns ms : List ℕ} → FieldsTo w fs ns v gs ms → (length gs ≡ 0) ⊎ (length ms ≡ 0)
    → v ≡ added_all w (write_all (map field_of fs) ns)
unfolding added_all
fields_end {gs = gs} {ms = ms} r e = rw (nothing_left gs ms e) at r.left

-- ---- the line

pub line_written : (p : RowName) (fs : List Field) (ns : List ℕ) {c : ℕ} {b r : List ℕ} (w : List ℕ) → r ≡ added_all w (write_all (map field_of fs) ns)
    → map field_of fs ≡ forms_of p → w ≡ added b c → c ≡ letter_byte (row_of p).letter → b ≡ [] → r ≡ written_as (written (row_of p) ns)
unfolding added_all written forms_of
line_written p fs ns {c} w f g e d a =
    let t = write_all (row_of p).forms ns in
    rw (letter_text_lem p, ← d) (f ∙ ap (λ x. added_all w (write_all x ns)) g ∙ ap (λ x. added_all x t) (e ∙ ap (λ x. added x c) a) ∙ all_taken (c ∷ t) [] (omega arith))
