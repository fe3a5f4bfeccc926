-- When a lone book is sound: every record obeys document 01's ranges, keys, quotas and periods, every rule has its
-- type, and every row its rule with that rule's criteria filled. Assumes nothing.
use Rattle.std.specs.Prelude.{ℕ, Bool, not, ◌&&◌, List, [], ◌∷◌, eqb, leb, length}
use Rattle.tables.specs.Count.{count, has, every}
use Rattle.meaning.specs.Forms.{
  holds,
  holds_all,
  day,
  code,
  type_form,
  object_form,
  processing_form,
  sequence_form,
  sign_form,
  criteria_form,
  kind_form,
  number_form,
  ten_values,
  nine_forms,
  reference_form,
  optional,
  wrongly_filled,
}
use Rattle.meaning.specs.Records.{
  TypeRecord,
  Rule,
  Row,
  Period,
  Kept,
  Book,
  type_quota,
  rule_quota,
  row_quota,
  period_quota,
}
use Rattle.meaning.specs.Keys.{is_type, is_rule, is_row, clash, filled}
use Rattle.meaning.specs.Pending.{are_types}

-- ---- ranges

-- first is not after last
unfoldable pub days_fit : ℕ → ℕ → Bool
unfolding holds
days_fit first last = holds day first && (holds day last && leb first last)

unfoldable pub key_fits : ℕ → ℕ → Bool
unfolding holds
key_fits type object = holds type_form type && holds object_form object

-- processing 3 is of object 1 only
unfoldable pub type_fits : TypeRecord → Bool
unfolding holds key_fits days_fit
type_fits t =
    key_fits t.type t.object
    && ((holds processing_form t.processing && not (eqb t.processing 3 && eqb t.object 2)) && days_fit t.first t.last)

unfoldable pub rule_fits : Rule → Bool
unfolding holds key_fits days_fit
rule_fits r =
    (key_fits r.type r.object && holds sequence_form r.sequence)
    && ((holds sign_form r.sign && holds criteria_form r.criteria) && days_fit r.first r.last)

unfoldable pub row_fits : Row → Bool
unfolding holds holds_all key_fits
row_fits w = (key_fits w.type w.object && holds sequence_form w.sequence) && holds_all ten_values w.values

unfoldable pub period_fits : Period → Bool
unfolding holds days_fit
period_fits p =
    (holds kind_form p.kind && holds number_form p.number) && (holds code p.code && days_fit p.first p.last)

-- the nine fields of a kept instruction, from object to security
abbrev pub nine_of : Kept → List ℕ
nine_of k =
    k.object ∷ k.party_type ∷ k.movement ∷ k.payment ∷ k.transaction ∷ k.currency ∷ k.party ∷ k.account ∷ k.security ∷ []

-- ranges as in S, movement and payment as the object asks; each hold's day is a day or none, a restriction has no party
-- hold, and what is remembered are types (document 02, request d). No book holds one yet.
unfoldable pub kept_fits : Kept → Bool
unfolding holds holds_all are_types
kept_fits k =
    ((holds reference_form k.reference && holds_all nine_forms (nine_of k))
    && not (wrongly_filled k.object k.movement k.payment))
    && ((holds (optional day) k.validating && holds (optional day) k.holding)
    && (not (eqb k.object 2 && not (eqb k.holding 0)) && are_types k.remembered))

-- ---- a record in its lone book

-- its key is held once
unfoldable pub good_type : Book → TypeRecord → Bool
unfolding type_fits count is_type
good_type b t = type_fits t && leb (count (is_type t.type t.object) b.types) 1

-- and it has its type
unfoldable pub good_rule : Book → Rule → Bool
unfolding rule_fits count has is_rule is_type
good_rule b r =
    rule_fits r
    && (leb (count (is_rule r.type r.object r.sequence) b.rules) 1 && has (is_type r.type r.object) b.types)

-- the row's rule, whose criteria the row fills
unfoldable pub fills_rule : Row → Rule → Bool
unfolding is_rule
fills_rule w r = is_rule w.type w.object w.sequence r && eqb r.criteria (filled w.values)

unfoldable pub good_row : Book → Row → Bool
unfolding row_fits count has is_row fills_rule
good_row b w = row_fits w && (leb (count (is_row w) b.rows) 1 && has (fills_rule w) b.rules)

-- a period shares a day with itself, and with no other of its kind, number and attribute
unfoldable pub good_period : Book → Period → Bool
unfolding period_fits count clash
good_period b p = period_fits p && leb (count (clash p) b.periods) 1

unfoldable pub quotas : Book → Bool
quotas b =
    (leb (length b.types) type_quota && leb (length b.rules) rule_quota)
    && (leb (length b.rows) row_quota && leb (length b.periods) period_quota)

unfoldable pub sound_lone : Book → Bool
unfolding quotas every good_type good_rule good_row good_period
sound_lone b =
    quotas b
    && (every (good_type b) b.types
    && (every (good_rule b) b.rules && (every (good_row b) b.rows && every (good_period b) b.periods)))
