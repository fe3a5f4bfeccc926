-- The bytes that a reorder leaves: the rule with its new sequence, and each of its rows.
use Rattle.std.specs.Prelude.{ℕ, zero, suc, Bool, ◌&&◌, List, eqb}
use Rattle.std.proofs.Math.Bool.{cond}
use Rattle.meaning.specs.Keys.{of_rule}
use Rattle.places.specs.Layout.{rule_at, put_rule, row_places, row_at, put_row}
use Rattle.places.specs.declared.Rule.{Rule}
use Rattle.places.specs.declared.Row.{Row}
use Rattle.records.specs.Said.{row_of}

abbrev pub rule_with : ℕ → Rule → Rule
rule_with new r =
    record { csd = r.csd; number = r.number; object = r.object; sequence = new; sign = r.sign; criteria = r.criteria; first = r.first; last = r.last }

abbrev pub row_with : ℕ → Row → Row
row_with new r = record { csd = r.csd; number = r.number; object = r.object; sequence = new; values = r.values }

module _ (c n o s new : ℕ) where
  -- whether a row is of the rule
  unfoldable pub carried : Row → Bool
  carried r = eqb r.csd c && of_rule n o s (row_of r)

  -- the row at place i, if it is of the rule
  unfoldable pub carry_row : List ℕ → ℕ → List ℕ
  unfolding carried
  carry_row b i = cond (carried (row_at b i)) (put_row b i (row_with new (row_at b i))) b

  -- the rows of the places below k carried along
  unfoldable pub carry_rows : List ℕ → ℕ → List ℕ
  carry_rows b zero = b
  carry_rows b (suc k) =
      cond (carried (row_at b k)) (put_row (carry_rows b k) k (row_with new (row_at b k))) (carry_rows b k)

  -- the rule at place i, then all rows
  unfoldable pub reorder_in : List ℕ → ℕ → List ℕ
  reorder_in b i = carry_rows (put_rule b i (rule_with new (rule_at b i))) row_places
