-- How a question is judged over the places of the lent book, by the rules of which a row matches
-- (matching/specs/MatchedRows, stages 1 and 2): a pass over the rules and the types, and one over the rules for each
-- type that is named. A stage leaves marks, tests of the keys of a table of numbers; each definition is of any bytes.
-- Assumes nothing.
use Rattle.std.specs.Prelude.{ℕ, ◌+◌, ◌*◌, ◌<◌, ◌≤◌, ◌≡◌, Bool, false, ◌&&◌, ◌||◌, not, cond, List, eqb, length, get_or, replicate, Option, Some, None}
use Rattle.tables.specs.Below.{least_below}
use Rattle.tables.specs.Keyed.{keys, leasts}
use Rattle.meaning.specs.Records.{positive, negative, rejection, validation_hold, party_hold}
use Rattle.meaning.specs.Judging.{covers, by}
use Rattle.meaning.specs.declared.Deciding.{Deciding}
use Rattle.meaning.specs.declared.Verdict.{Verdict}
use Rattle.places.specs.Layout.{type_places, rule_places, type_at, rule_at}
use Rattle.places.specs.declared.RestrictionType.{RestrictionType}
use Rattle.places.specs.declared.Rule.{Rule}
use Rattle.rules.specs.declared.ListedRule.{ListedRule}
use Rattle.matching.specs.MatchedRows.{rule_key, codes_borne, rows_matched}
use Rattle.commands.specs.declared.Question.{Question}

-- ---- the keys of the tables: the last part of each is below 3

-- a rule of one such type with its sign
abbrev pub sign_key : ℕ → ℕ → ℕ
sign_key sequence sign = sequence * 3 + sign

-- a type of the question's object with the sign of a rule
abbrev pub type_key : ℕ → ℕ → ℕ
type_key type sign = type * 3 + sign

-- by record
abbrev pub signed_key : Rule → ℕ
signed_key r = sign_key r.sequence r.sign

abbrev pub typed_key : Rule → ℕ
typed_key r = type_key r.number r.sign

-- the sizes of the tables
abbrev pub sign_keys : ℕ
sign_keys = 300

abbrev pub type_keys : ℕ
type_keys = 300

-- processings are 1 to 3, sequences 1 to 99
abbrev pub processings : ℕ
processings = 4

abbrev pub sequences : ℕ
sequences = 100

-- type numbers are 1 to 99
abbrev pub type_numbers : ℕ
type_numbers = 100

-- ---- 3. the signs of which a rule of a type matches

unfoldable pub rule_matches : Question → (ℕ → Bool) → Rule → Bool
rule_matches q rows r =
    eqb r.object q.object && (covers r.first r.last q.day && rows (rule_key r.number r.sequence))

unfoldable pub signs_matched : List ℕ → Question → (ℕ → Bool) → ℕ → Bool
signs_matched b q rows =
    keys (λ r. r.csd) q.csd (rule_at b) typed_key (rule_matches q rows) type_keys rule_places

-- ---- 4. the lowest type of each processing

-- a current type that is not passed over, of which a positive rule matches and no negative one does
unfoldable pub type_applies : Question → (RestrictionType → Bool) → (ℕ → Bool) → RestrictionType → Bool
type_applies q over signs t =
    (eqb t.object q.object && covers t.first t.last q.day)
    && ((signs (type_key t.number positive) && not (signs (type_key t.number negative))) && not (over t))

unfoldable pub types_named : List ℕ → Question → (RestrictionType → Bool) → (ℕ → Bool) → ℕ → ℕ
types_named b q over signs =
    leasts (λ t. t.csd) q.csd (type_at b) (λ t. t.processing) (type_applies q over signs) (λ t. t.number) processings type_places

-- ---- the types exempted

-- a current type, of which a negative rule matches
unfoldable pub type_exempted : Question → (ℕ → Bool) → RestrictionType → Bool
type_exempted q signs t =
    (eqb t.object q.object && covers t.first t.last q.day) && signs (type_key t.number negative)

unfoldable pub types_exempted : List ℕ → Question → (ℕ → Bool) → ℕ → Bool
types_exempted b q signs =
    keys (λ t. t.csd) q.csd (type_at b) (λ t. t.number) (type_exempted q signs) type_numbers type_places

-- ---- 5. the rules of a type that is named, looked through in rising sequence

-- a rule of that type that matches
unfoldable pub rule_of_type : Question → (ℕ → Bool) → ℕ → Rule → Bool
unfolding rule_matches
rule_of_type q rows type r = eqb r.number type && rule_matches q rows r

unfoldable pub rules_matched : List ℕ → Question → (ℕ → Bool) → ℕ → ℕ → Bool
rules_matched b q rows type =
    keys (λ r. r.csd) q.csd (rule_at b) signed_key (rule_of_type q rows type) sign_keys rule_places

-- the type's rule at a sequence that matches, by the marks of its two signs; a sound book has one rule there at most
abbrev pub judged_rule : (ℕ → Bool) → ℕ → Option ListedRule
judged_rule rules s =
    cond (rules (sign_key s positive)) (Some (record { sequence = s; sign = positive }))
    (cond (rules (sign_key s negative)) (Some (record { sequence = s; sign = negative })) None)

-- no rule at any sequence
unfoldable pub none_listed : List (Option ListedRule)
none_listed = replicate sequences None

-- the rules of a type below sequence n, each at the place of its sequence; no rule has sequence 0
pub record Listed (rules : ℕ → Bool) (n : ℕ) (t : List (Option ListedRule)) : Type 0 where
  pub long : length t ≡ sequences
  pub none : get_or t 0 None ≡ None
  pub each : (s : ℕ) → 1 ≤ s → s < n → get_or t s None ≡ judged_rule rules s

-- the first positive rule of the type that matches, 0 where none does
unfoldable pub first_rule : (ℕ → Bool) → ℕ
first_rule rules = least_below (λ s. cond (rules (sign_key s positive)) s 0) sequences

-- ---- the verdict

-- the type, if any, with its deciding rule: rules gives the marks of each type
unfoldable pub decided : (ℕ → ℕ → Bool) → ℕ → Option Deciding
decided rules type = cond (eqb type 0) None (Some (by type (first_rule (rules type))))

-- by the type named for each processing, 0 for none: a rejected instruction shows no hold
unfoldable pub verdict : (ℕ → ℕ → Bool) → (ℕ → ℕ) → Verdict
verdict rules named = record {
  rejection = decided rules (named rejection);
  validation = decided rules (cond (eqb (named rejection) 0) (named validation_hold) 0);
  party = decided rules (cond (eqb (named rejection) 0) (named party_hold) 0);
}

-- by the types that are passed over, and the rules that count and of which a row matches
unfoldable pub verdict_by : List ℕ → Question → (RestrictionType → Bool) → (ℕ → Bool) → Verdict
verdict_by b q over rows = verdict (rules_matched b q rows) (types_named b q over (signs_matched b q rows))

-- the rules of which a row matches, by the book's bytes
abbrev pub rows_on : List ℕ → Question → ℕ → Bool
rows_on b q = rows_matched b q (codes_borne b q)

-- the verdict, by the book's bytes: no type is passed over, and every rule counts
unfoldable pub judged_by : List ℕ → Question → Verdict
unfolding verdict_by
judged_by b q = verdict_by b q (λ t. false) (rows_on b q)
