-- Which rules are new on a question's day, over the places of the lent book: a pass over the types, then one over the
-- rules. A pass leaves marks, tests of the keys of a table of numbers; each definition is of any bytes. Assumes
-- nothing.
use Rattle.std.specs.Prelude.{ℕ, ◌+◌, ◌*◌, Bool, ◌&&◌, ◌||◌, cond, List, eqb, leb}
use Rattle.tables.specs.Keyed.{keys, Keyed}
use Rattle.places.specs.Layout.{type_places, rule_places, type_at, rule_at}
use Rattle.places.specs.declared.RestrictionType.{RestrictionType}
use Rattle.places.specs.declared.Rule.{Rule}
use Rattle.matching.specs.MatchedRows.{rule_key, rule_keys}
use Rattle.commands.specs.declared.Question.{Question}
use Rattle.newrules.specs.declared.Begun.{Begun}
use Rattle.newrules.specs.declared.Begun.TheVariants.{OnTheDay, Before}

-- ---- 1. the types that began on the day or before it

abbrev pub on_the_day : ℕ
on_the_day = 1

abbrev pub before : ℕ
before = 2

-- by the code's enum
abbrev pub time_of : Begun → ℕ
time_of OnTheDay = on_the_day
time_of Before = before

abbrev pub when_begun : ℕ → ℕ → ℕ
when_begun first day = cond (eqb first day) on_the_day before

-- the key of a type of the question's object with when it began, and the size of the table
abbrev pub begun_key : ℕ → ℕ → ℕ
begun_key type when = type * 3 + when

abbrev pub begun_keys : ℕ
begun_keys = 300

-- by record
abbrev pub first_key : Question → RestrictionType → ℕ
first_key q t = begun_key t.number (when_begun t.first q.day)

unfoldable pub has_begun : Question → RestrictionType → Bool
has_begun q t = eqb t.object q.object && leb t.first q.day

unfoldable pub types_begun : List ℕ → Question → ℕ → Bool
types_begun b q = keys (λ t. t.csd) q.csd (type_at b) (first_key q) (has_begun q) begun_keys type_places

-- ---- 2. the rules that are new

-- by when its type began, of a rule that does not begin after the day
unfoldable pub rule_new : Question → (ℕ → Bool) → Rule → Bool
rule_new q begun r =
    begun (begun_key r.number on_the_day) || (begun (begun_key r.number before) && eqb r.first q.day)

abbrev pub ruled_key : Rule → ℕ
ruled_key r = rule_key r.number r.sequence

-- a new rule of the question's object, of which a row matches
unfoldable pub new_matches : Question → (ℕ → Bool) → (ℕ → Bool) → Rule → Bool
unfolding rule_new
new_matches q begun rows r = eqb r.object q.object && (rule_new q begun r && rows (ruled_key r))

unfoldable pub new_rules : List ℕ → Question → (ℕ → Bool) → (ℕ → Bool) → ℕ → Bool
new_rules b q begun rows =
    keys (λ r. r.csd) q.csd (rule_at b) ruled_key (new_matches q begun rows) rule_keys rule_places

-- a table of that size of the new rules with a matching row, each entry as the rules leave it
abbrev pub NewMarked : ℕ → List ℕ → Question → (ℕ → Bool) → (ℕ → Bool) → List ℕ → Type 0
NewMarked size b q begun rows t =
    Keyed size (λ r. r.csd) q.csd (rule_at b) ruled_key (new_matches q begun rows) (λ r m. 1) t rule_places
