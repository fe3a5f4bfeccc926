-- A free place is all zero (document 01, 'Records'): each of its numbers is 0. Assumes nothing.
-- Written by tools/values.py: change that, then run tools/generate.
use Rattle.std.specs.Prelude.{ℕ, Bool, List, eqb}
use Rattle.tables.specs.Count.{every}
use Rattle.places.specs.Layout.{type_numbers, rule_numbers, row_numbers, period_numbers}
use Rattle.places.specs.declared.RestrictionType.{RestrictionType}
use Rattle.places.specs.declared.Rule.{Rule}
use Rattle.places.specs.declared.Row.{Row}
use Rattle.places.specs.declared.Period.{Period}

unfoldable pub all_zero : List ℕ → Bool
unfolding every
all_zero = every (λ n. eqb n 0)

unfoldable pub type_zero : RestrictionType → Bool
unfolding all_zero
type_zero r = all_zero (type_numbers r)

unfoldable pub rule_zero : Rule → Bool
unfolding all_zero
rule_zero r = all_zero (rule_numbers r)

unfoldable pub row_zero : Row → Bool
unfolding all_zero
row_zero r = all_zero (row_numbers r)

unfoldable pub period_zero : Period → Bool
unfolding all_zero
period_zero r = all_zero (period_numbers r)
