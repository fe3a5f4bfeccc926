-- A field written by its form is the field that the meaning writes.
use Prim.Native.Nat.{ℕ, zero, suc}
use mathlib.Core.Path.{◌≡◌, refl, ap, sym, ◌∙◌}
use mathlib.Core.Bool.{false}
use mathlib.Core.Logic.{◌⊎◌, inl, inr}
use mathlib.Core.List.{List, [], ◌∷◌, map}
use native.Mathlib.Omega.{arith}
use lib.Dec.{ltb}
use borrow.Author.Tests.{ltb-false}
use denote.Ref.{Bor}
use lib.ListN.{length, get_or, drop, length-map, get_or-eq_default}
use Rattle.std.proofs.Math.Nat.{div-div-eq-div-mul}
use Rattle.std.specs.Int.{to_be_bytes}
use Rattle.std.proofs.Common.{w32}
use Rattle.meaning.specs.Text.{numeral, spelled}
use Rattle.meaning.specs.Forms.{Form, optional}
use Rattle.meaning.specs.Writing.{write}
use Rattle.shapes.specs.declared.Form.{Form as FormName}
use Rattle.shapes.specs.declared.Form.TheVariants.{Csd, TypeNumber, Object, Processing, Sequence, Criteria, Number, PartyType, Day, Code}
use Rattle.shapes.specs.Table.{plain_form}
use Rattle.writing.specs.Written.{added, added_all}

written_some : (φ : Form) (m : ℕ) → (m ≡ 0 → ⊥) → write (optional φ) m ≡ write φ m
unfolding write
written_some φ zero h = absurd (h refl)
written_some φ (suc m) h = refl

-- a field behind its comma
module _ (w : List ℕ) {v : List ℕ} (φ : Form) (n : ℕ) (a : v ≡ added w 44) where
  pub filled : {r : List ℕ} → r ≡ added_all v (write φ n) → r ≡ added_all w (44 ∷ write φ n)
  unfolding added_all
  filled e = e ∙ ap (λ u. added_all u (write φ n)) a

  pub empty : n ≡ 0 → v ≡ added_all w (44 ∷ write (optional φ) n)
  unfolding added_all write
  empty e = rw (e, ← a)

  pub given : {r : List ℕ} → (n ≡ 0 → ⊥) → r ≡ added_all v (write φ n) → r ≡ added_all w (44 ∷ write (optional φ) n)
  unfolding added_all
  given z e = rw (written_some φ n z) (e ∙ ap (λ u. added_all u (write φ n)) a)

-- ---- the letters of a number are its lowest bytes

pub four_letters : (n : ℕ) → spelled 4 n ≡ to_be_bytes w32 n
four_letters n = rw (div-div-eq-div-mul n 256 256, div-div-eq-div-mul n 65536 256)

pub three_letters : (n : ℕ) → spelled 3 n ≡ drop 1 (to_be_bytes w32 n)
three_letters n = rw (div-div-eq-div-mul n 256 256)

-- ---- forms

-- the forms that are decimal numbers
pub number_written : (φ : FormName) (n : ℕ) → (φ ≡ Csd) ⊎ (φ ≡ TypeNumber) ⊎ (φ ≡ Object) ⊎ (φ ≡ Processing) ⊎ (φ ≡ Sequence) ⊎ (φ ≡ Criteria) ⊎ (φ ≡ Number) ⊎ (φ ≡ PartyType) ⊎ (φ ≡ Day) ⊎ (φ ≡ Code) → write (plain_form φ) n ≡ numeral n
unfolding write
number_written φ n (inl e) = rw e
number_written φ n (inr (inl e)) = rw e
number_written φ n (inr (inr (inl e))) = rw e
number_written φ n (inr (inr (inr (inl e)))) = rw e
number_written φ n (inr (inr (inr (inr (inl e))))) = rw e
number_written φ n (inr (inr (inr (inr (inr (inl e)))))) = rw e
number_written φ n (inr (inr (inr (inr (inr (inr (inl e))))))) = rw e
number_written φ n (inr (inr (inr (inr (inr (inr (inr (inl e)))))))) = rw e
number_written φ n (inr (inr (inr (inr (inr (inr (inr (inr (inl e))))))))) = rw e
number_written φ n (inr (inr (inr (inr (inr (inr (inr (inr (inr e))))))))) = rw e

-- past the last word there is none
pub no_word : (w : List ℕ) (ws : List (Bor (List ℕ))) (k : ℕ) {i : ℕ} → i ≡ k → false ≡ ltb i (length ws)
    → w ≡ added_all w (get_or (map (λ x. x.now) ws) k [])
unfolding added_all
no_word w ws k {i} a h =
    let few = ltb-false i (length ws) (sym h) in
    rw (get_or-eq_default (map (λ x. x.now) ws) [] {n = k} (omega (arith, length-map ws (λ x. x.now))))
