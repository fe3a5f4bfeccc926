-- A line of the set has more than 6 bytes and at most 80, since its numbers are in their forms' ranges.
use Prim.Native.Nat.{ℕ, ◌-◌, ◌≤◌, ◌<◌}
use mathlib.Core.Path.{◌≡◌, refl, ap}
use mathlib.Core.Bool.{true, cond}
use mathlib.Core.List.{List, [], ◌∷◌, ◌++◌}
use native.Mathlib.Omega.{arith}
use lib.Dec.{ltb}
use lib.ListN.{length, get_or}
use borrow.Author.Tests.{ltb-true, ltb-false}
use Rattle.tables.specs.Count.{every}
use Rattle.tables.proofs.Counts.{cases, both}
use Rattle.tables.proofs.Entries.{every_entry}
use Rattle.meaning.specs.Fields.{within}
use Rattle.meaning.specs.Forms.{
  Form,
  csd_form,
  type_form,
  object_form,
  processing_form,
  sequence_form,
  sign_form,
  criteria_form,
  ten_values,
  day as day_form,
  is_day,
  holds,
  holds_all,
}
use Rattle.meaning.specs.Writing.{written}
use Rattle.meaning.specs.Keler.{keler_types, keler_rules, keler_rows, keler_lines}
use Rattle.shapes.specs.declared.Shape.{Shape as RowName}
use Rattle.shapes.specs.declared.Shape.TheVariants.{T, R, M}
use Rattle.shapes.specs.Table.{row_of}
use Rattle.writing.proofs.Widths.{right_fits, right_long}
use Rattle.keler.specs.Lines.{type_line, rule_line, row_line}
use Rattle.keler.proofs.SetLines.{type_line_lem, rule_line_lem, row_line_lem}

abbrev pub Fits : List ℕ → Type 0
Fits t = (6 < length t) × (length t ≤ 80)

by_row : (p : RowName) (ns : List ℕ) → 6 ≤ length (row_of p).forms → holds_all (row_of p).forms ns ≡ true → Fits (written (row_of p) ns)
by_row p ns h e = (omega (arith, right_long p ns e), right_fits p ns e)

-- forms one after the other
joined : (φs ψs : List Form) (ns ms : List ℕ) → holds_all φs ns ≡ true → holds_all ψs ms ≡ true → holds_all (φs ++ ψs) (ns ++ ms) ≡ true
unfolding holds_all
joined [] ψs [] ms e f = f
joined [] ψs (n ∷ ns) ms e f = absurd (let z : ◌≡◌ {A = ℕ} 0 1 = ap (λ b. cond b 1 0) e in omega arith)
joined (φ ∷ φs) ψs [] ms e f = absurd (let z : ◌≡◌ {A = ℕ} 0 1 = ap (λ b. cond b 1 0) e in omega arith)
joined (φ ∷ φs) ψs (n ∷ ns) ms e f =
    let b = both (holds φ n) (holds_all φs ns) e in
    rw b.0 (joined φs ψs ns ms b.1 f)

module _ (csd day : ℕ) (c : within 1 8 csd ≡ true) (d : is_day day ≡ true) where
  row_fits_lem : (n : ℕ) → n < 32 → Fits (row_line n csd day)
  unfolding row_line row_of keler_rows holds_all every
  row_fits_lem n h =
      let φs = type_form ∷ object_form ∷ sequence_form ∷ ten_values in
      let e = get_or keler_rows n [] in
      by_row M (csd ∷ day ∷ e) (omega arith) (rw (c, d) (every_entry (holds_all φs) keler_rows n [] refl h))

  module _ (first last : ℕ) (f : is_day first ≡ true) (l : is_day last ≡ true) where
    -- an entry of a table between the csd and day and the two days
    dated : (φs : List Form) (e : List ℕ) → holds_all φs e ≡ true
        → holds_all (csd_form ∷ day_form ∷ (φs ++ (day_form ∷ day_form ∷ []))) (csd ∷ day ∷ (e ++ (first ∷ last ∷ []))) ≡ true
    unfolding holds_all
    dated φs e h = rw (c, d) (joined φs (day_form ∷ day_form ∷ []) e (first ∷ last ∷ []) h (rw (f, l)))

    type_fits_lem : (n : ℕ) → n < 10 → Fits (type_line n csd day first last)
    unfolding type_line row_of keler_types holds_all every
    type_fits_lem n h =
        let φs = type_form ∷ object_form ∷ processing_form ∷ [] in
        let e = get_or keler_types n [] in
        by_row T (csd ∷ day ∷ (e ++ (first ∷ last ∷ []))) (omega arith) (dated φs e (every_entry (holds_all φs) keler_types n [] refl h))

    rule_fits_lem : (n : ℕ) → n < 13 → Fits (rule_line n csd day first last)
    unfolding rule_line row_of keler_rules holds_all every
    rule_fits_lem n h =
        let φs = type_form ∷ object_form ∷ sequence_form ∷ sign_form ∷ criteria_form ∷ [] in
        let e = get_or keler_rules n [] in
        by_row R (csd ∷ day ∷ (e ++ (first ∷ last ∷ []))) (omega arith) (dated φs e (every_entry (holds_all φs) keler_rules n [] refl h))

    -- a line of a right number, csd and dates
    pub sized : (n : ℕ) → n < 55 → Fits (get_or (keler_lines csd day first last) n [])
    sized n h =
        cases (ltb n 10)
        (λ e. let a = ltb-true n 10 e in rw (type_line_lem csd day first last n a) (type_fits_lem n a))
        (λ e.
        let a = ltb-false n 10 e in
        cases (ltb n 23)
        (λ x. let b = ltb-true n 23 x in rw (rule_line_lem csd day first last n a b) (rule_fits_lem (n - 10) (omega arith)))
        (λ x. let b = ltb-false n 23 x in rw (row_line_lem csd day first last n b h) (row_fits_lem (n - 23) (omega arith))))
