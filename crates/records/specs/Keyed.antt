-- How a record is known (document 01, 'Records'): its key. Assumes nothing.
use Rattle.places.specs.declared.RestrictionType.{RestrictionType}
use Rattle.places.specs.declared.Rule.{Rule}
use Rattle.places.specs.declared.Row.{Row}
use Rattle.places.specs.declared.Period.{Period}
use Rattle.records.specs.declared.TypeKey.{TypeKey}
use Rattle.records.specs.declared.RuleKey.{RuleKey}
use Rattle.records.specs.declared.PeriodKey.{PeriodKey}

abbrev pub type_key : RestrictionType → TypeKey
type_key t = record { number = t.number; object = t.object }

abbrev pub rule_key : Rule → RuleKey
rule_key r = record { sequence = r.sequence; number = r.number; object = r.object }

-- the key of a row's rule
abbrev pub row_key : Row → RuleKey
row_key w = record { sequence = w.sequence; number = w.number; object = w.object }

abbrev pub period_key : Period → PeriodKey
period_key p = record { first = p.first; code = p.code; number = p.number; kind = p.kind }
