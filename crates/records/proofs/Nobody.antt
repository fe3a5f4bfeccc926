-- A free place is nobody's.
-- Written by tools/values.py: change that, then run tools/generate.
use mathlib.Core.Path.{◌≡◌}
use mathlib.Core.Bool.{true}
use borrow.Author.Tests.{eqb-true}
use Rattle.tables.specs.Count.{every}
use Rattle.tables.proofs.Counts.{ands}
use Rattle.places.specs.declared.RestrictionType.{RestrictionType}
use Rattle.places.specs.declared.Rule.{Rule}
use Rattle.places.specs.declared.Row.{Row}
use Rattle.places.specs.declared.Period.{Period}
use Rattle.records.specs.Free.{all_zero, type_zero, rule_zero, row_zero, period_zero}

pub type_nobody : (r : RestrictionType) → type_zero r ≡ true → r.csd ≡ 0
unfolding type_zero all_zero every
type_nobody r e = eqb-true r.csd 0 (search ands)

pub rule_nobody : (r : Rule) → rule_zero r ≡ true → r.csd ≡ 0
unfolding rule_zero all_zero every
rule_nobody r e = eqb-true r.csd 0 (search ands)

pub row_nobody : (r : Row) → row_zero r ≡ true → r.csd ≡ 0
unfolding row_zero all_zero every
row_nobody r e = eqb-true r.csd 0 (search ands)

pub period_nobody : (r : Period) → period_zero r ≡ true → r.csd ≡ 0
unfolding period_zero all_zero every
period_nobody r e = eqb-true r.csd 0 (search ands)
