-- O leaves the rules and rows good: nothing has the new key, so the rule and its rows, which go there together, meet no
-- other.
use Rattle.std.proofs.Common.{ℕ, ◌≡◌, refl, ap, sym, ◌∙◌, true, false, List}
use mathlib.Core.Bool.{false≢true}
use Rattle.tables.specs.Count.{has, change}
use Rattle.tables.proofs.Counts.{ands}
use Rattle.tables.proofs.Lists.{has_true, some_of}
use Rattle.meaning.specs.Forms.{holds, sequence_form}
use Rattle.meaning.specs.Records.{Rule, Row, Book}
use Rattle.meaning.specs.Keys.{is_rule, of_rule, is_row}
use Rattle.meaning.specs.Edits.{rule_moved, row_moved, with_rules, with_rows}
use Rattle.meaning.specs.Sound.{key_fits, rule_fits, row_fits, fills_rule}
use Rattle.meaning.proofs.Keys.{rule_key_lem, of_key, is_rule_lem, is_of, row_key_lem, row_self, row_of_rule, rule_of_row}
use Rattle.meaning.proofs.Listed.{Listed, not_so, has_map, every_change, has_change, listed_changed}
use Rattle.meaning.proofs.Good.{rule_kind, row_kind, Ruled, Lists}
use Rattle.meaning.proofs.Changed.{rules_rows_changed}

-- a row of a key would have its rule there
pub no_rows : (b : Book) → Lists b → (n o s : ℕ) → has (is_rule n o s) b.rules ≡ false
    → has (of_rule n o s) b.rows ≡ false
no_rows b g n o s free =
    not_so (has (of_rule n o s) b.rows) (has (is_rule n o s) b.rules) free
    (λ h.
    some_of (λ w. has (fills_rule w) b.rules) (of_rule n o s) b.rows g.ruled (has_true _ b.rows h)
    (λ w e t. has_map (fills_rule w) (is_rule n o s) b.rules e (λ r. rule_of_row n o s w r t)))

module _ (n o s new : ℕ) where
  -- ---- one record

  rule_moved_lem : holds sequence_form new ≡ true → (r : Rule) → rule_fits r ≡ true → rule_fits (rule_moved new r) ≡ true
  unfolding rule_fits
  rule_moved_lem f r h = let a : key_fits r.type r.object ≡ true = search ands in rw (a, f) (search ands)

  row_moved_lem : holds sequence_form new ≡ true → (w : Row) → row_fits w ≡ true → row_fits (row_moved new w) ≡ true
  unfolding row_fits
  row_moved_lem f w h = let a : key_fits w.type w.object ≡ true = search ands in rw (a, f) (search ands)

  -- what is like the moved one has the new key
  rule_there : (x y : Rule) → is_rule n o s x ≡ true → is_rule x.type x.object new y ≡ true
      → is_rule n o new y ≡ true
  rule_there x y z h =
      let k = rule_key_lem n o s x z in
      let m = rule_key_lem x.type x.object new y h in
      is_rule_lem n o new y (k.0 ∙ m.0) (k.1 ∙ m.1) m.2

  row_there_lem : (x y : Row) → of_rule n o s x ≡ true → is_row (row_moved new x) y ≡ true → of_rule n o new y ≡ true
  row_there_lem x y z h =
      let k = of_key n o s x z in
      let q = row_key_lem (row_moved new x) y h in
      is_of n o new y (k.0 ∙ ap (λ w. w.type) q) (k.1 ∙ ap (λ w. w.object) q) (ap (λ w. w.sequence) q)

  -- two that both move had the old key
  rules_old : (x y : Rule) → is_rule n o s x ≡ true → is_rule n o s y ≡ true
      → is_rule x.type x.object x.sequence y ≡ true
  rules_old x y z w =
      let k = rule_key_lem n o s x z in
      let m = rule_key_lem n o s y w in
      is_rule_lem x.type x.object x.sequence y (sym k.0 ∙ m.0) (sym k.1 ∙ m.1) (sym k.2 ∙ m.2)

  rows_old : (x y : Row) → of_rule n o s x ≡ true → of_rule n o s y ≡ true
      → is_row (row_moved new x) (row_moved new y) ≡ true → is_row x y ≡ true
  rows_old x y z w h =
      let q = row_key_lem (row_moved new x) (row_moved new y) h in
      let e : x.sequence ≡ y.sequence = sym (of_key n o s x z).2 ∙ (of_key n o s y w).2 in
      let p : x ≡ y = λ i. record { type = (q i).type; object = (q i).object; sequence = e i; values = (q i).values } in
      ap (is_row x) (sym p) ∙ row_self x

  fills_moved : (w : Row) (r : Rule) → fills_rule w r ≡ true → fills_rule (row_moved new w) (rule_moved new r) ≡ true
  unfolding fills_rule
  fills_moved w r h =
      let k = rule_key_lem w.type w.object w.sequence r (search ands) in
      rw (is_rule_lem w.type w.object new (rule_moved new r) k.0 k.1 refl) (search ands)

  -- ---- the lists

  abbrev pub moved_rules : List Rule → List Rule
  moved_rules = change (is_rule n o s) (rule_moved new)

  abbrev pub moved_rows : List Row → List Row
  moved_rows = change (of_rule n o s) (row_moved new)

  module _ (b : Book) (g : Lists b) (f : holds sequence_form new ≡ true) (free : has (is_rule n o new) b.rules ≡ false)
    where
      rules_moved : Listed rule_kind (moved_rules b.rules)
      rules_moved =
          listed_changed g.rules (is_rule n o s) (is_rule n o new) (rule_moved new) free (λ r z a. rule_moved_lem f r)
          (λ x y z a c h. absurd (false≢true (sym c ∙ rule_there x y z h)))
          (λ x y z w a c h. rules_old x y z w)

      rows_moved : Listed row_kind (moved_rows b.rows)
      rows_moved =
          listed_changed g.rows (of_rule n o s) (of_rule n o new) (row_moved new) (no_rows b g n o new free) (λ w z a. row_moved_lem f w)
          (λ x y z a c h. absurd (false≢true (sym c ∙ row_there_lem x y z h)))
          (λ x y z w a c h. rows_old x y z w h)

      -- a row goes exactly if its rule does
      ruled_moved : Ruled (moved_rules b.rules) (moved_rows b.rows)
      ruled_moved =
          every_change (of_rule n o s) (row_moved new) (λ w. has (fills_rule w) b.rules) _ b.rows g.ruled
          (λ w z h.
          has_change (is_rule n o s) (rule_moved new) (fills_rule w) (fills_rule (row_moved new w)) b.rules h
          (λ r y t. fills_moved w r t)
          (λ r y t. absurd (false≢true (sym y ∙ rule_of_row n o s w r z t))))
          (λ w z h.
          has_change (is_rule n o s) (rule_moved new) (fills_rule w) (fills_rule w) b.rules h
          (λ r y t. absurd (false≢true (sym z ∙ row_of_rule n o s w r y t)))
          (λ r y t. t))

      pub reordered : Lists (with_rows (moved_rows b.rows) (with_rules (moved_rules b.rules) b))
      reordered =
          rules_rows_changed b g rules_moved rows_moved
          (every_change (is_rule n o s) (rule_moved new) _ _ b.rules g.typed (λ r z h. h) (λ r z h. h))
          ruled_moved
