-- When two records cannot stand in one book, and which record is another's owner (document 01, 'Records'). Assumes
-- nothing.
use Rattle.std.specs.Prelude.{ℕ, ◌≡◌, ◌+◌, ◌*◌, Bool, true, cond, not, ◌&&◌, List, ◌==◌, Option, Some, None}
use Rattle.tables.specs.Count.{bit}
use Rattle.meaning.specs.Forms.{Form, holds_all, ten_values}
use Rattle.meaning.specs.Keys.{filled}
use Rattle.places.specs.declared.RestrictionType.{RestrictionType}
use Rattle.places.specs.declared.Rule.{Rule}
use Rattle.places.specs.declared.Row.{Row}
use Rattle.places.specs.declared.Period.{Period}
use Rattle.records.specs.Said.{type_of, rule_of, row_of, period_of}
use Rattle.records.specs.Keyed.{type_key, rule_key}
use Rattle.records.specs.Asks.{type_meets, rule_meets, row_meets, period_meets}
use Rattle.records.specs.declared.TypeAsk.TheVariants as Types
use Rattle.records.specs.declared.RuleAsk.TheVariants as Rules
use Rattle.records.specs.declared.RowAsk.TheVariants as Rows
use Rattle.records.specs.declared.PeriodAsk.TheVariants as Periods

-- ---- s is of t's depository, and is known as t is, or clashes with it

unfoldable pub type_alike : RestrictionType → RestrictionType → Bool
type_alike t s = s.csd == t.csd && type_meets (Types.Named (type_key t)) (type_of s)

unfoldable pub rule_alike : Rule → Rule → Bool
rule_alike t s =
    s.csd == t.csd && rule_meets (Rules.Named (rule_key t)) (rule_of s)

unfoldable pub row_alike : Row → Row → Bool
row_alike t s = s.csd == t.csd && row_meets (Rows.Same t) (row_of s)

unfoldable pub period_alike : Period → Period → Bool
period_alike t s = s.csd == t.csd && period_meets (Periods.Clash t) (period_of s)

-- ---- owners: s is the rule's type; s is the row's rule, whose criteria the row fills

unfoldable pub typed_by : Rule → RestrictionType → Bool
typed_by r s = s.csd == r.csd && type_meets (Types.Named (record { number = r.number; object = r.object })) (type_of s)

unfoldable pub ruled_by : Row → Rule → Bool
ruled_by w s = s.csd == w.csd && rule_meets (Rules.Fills w) (rule_of s)

-- ---- the criteria that a row's values fill where each is in its range

unfoldable pub filled_in : List Form → List ℕ → Option ℕ
filled_in φs v = cond (holds_all φs v) (Some (filled v)) None

unfoldable pub filled_or_none : List ℕ → Option ℕ
filled_or_none v = cond (holds_all ten_values v) (Some (filled v)) None

-- what is answered of a value that is empty, or as asked
pub record OrNone (x : ℕ) (says : Bool → Type 0) (answer : Bool) : Type 0 where
  pub empty : x ≡ 0 → answer ≡ true
  pub asked : (x ≡ 0 → ⊥) → says answer

-- the criteria with one value more in front
abbrev pub one_more : ℕ → ℕ → ℕ
one_more x n = bit (not (x == 0)) + 2 * n
