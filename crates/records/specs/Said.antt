-- What the record at a place says without its depository: the written meaning's record. Assumes nothing.
use Rattle.meaning.specs.Records as M
use Rattle.places.specs.declared.RestrictionType.{RestrictionType}
use Rattle.places.specs.declared.Rule.{Rule}
use Rattle.places.specs.declared.Row.{Row}
use Rattle.places.specs.declared.Period.{Period}
use Rattle.places.specs.declared.Kept.{Kept}
use Rattle.memory.specs.Remembered.{types_in}

unfoldable pub type_of : RestrictionType → M.TypeRecord
type_of r = record { type = r.number; object = r.object; processing = r.processing; first = r.first; last = r.last }

unfoldable pub rule_of : Rule → M.Rule
rule_of r = record { type = r.number; object = r.object; sequence = r.sequence; sign = r.sign; criteria = r.criteria; first = r.first; last = r.last }

unfoldable pub row_of : Row → M.Row
row_of r = record { type = r.number; object = r.object; sequence = r.sequence; values = r.values }

unfoldable pub period_of : Period → M.Period
period_of r = record { kind = r.kind; number = r.number; code = r.code; first = r.first; last = r.last }

unfoldable pub instruction_of : Kept → M.Kept
instruction_of r = record {
  reference = r.reference;
  object = r.object;
  party_type = r.role;
  movement = r.movement;
  payment = r.payment;
  transaction = r.transaction;
  currency = r.currency;
  party = r.party;
  account = r.account;
  security = r.security;
  validating = r.validating;
  holding = r.holding;
  remembered = types_in r.remembered;
}
