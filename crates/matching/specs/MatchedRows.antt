-- Which rules have a row that matches a question, over the places of the lent book: a pass over the periods and one
-- over the rows. A pass leaves marks, tests of the keys of a table of numbers; each definition is of any bytes. Assumes
-- nothing.
use Rattle.std.specs.Prelude.{ℕ, zero, suc, ◌+◌, ◌*◌, Bool, false, ◌&&◌, ◌||◌, cond, List, [], ◌∷◌, eqb, get_or}
use Rattle.tables.specs.Count.{all_below}
use Rattle.tables.specs.Keyed.{keys, Keyed}
use Rattle.meaning.specs.Records.{party, account, security}
use Rattle.meaning.specs.Judging.{covers}
use Rattle.places.specs.Layout.{row_places, period_places, row_at, period_at}
use Rattle.places.specs.declared.Row.{Row}
use Rattle.places.specs.declared.Period.{Period}
use Rattle.commands.specs.declared.Question.{Question}

-- ---- the keys of the tables: the last part is below 4 and 100

-- a code of a kind
abbrev pub code_key : ℕ → ℕ → ℕ
code_key code kind = code * 4 + kind

-- a rule of the question's object
abbrev pub rule_key : ℕ → ℕ → ℕ
rule_key type sequence = type * 100 + sequence

-- by record
abbrev pub period_key : Period → ℕ
period_key p = code_key p.code p.kind

abbrev pub row_key : Row → ℕ
row_key w = rule_key w.number w.sequence

-- how many keys a code has, one for each kind and 0: the flags of one entry of the table of codes
abbrev pub kinds : ℕ
kinds = 4

-- the sizes of the tables; that of codes has the keys of a code in one entry
abbrev pub code_keys : ℕ
code_keys = 40000

abbrev pub code_entries : ℕ
code_entries = 10000

abbrev pub rule_keys : ℕ
rule_keys = 10000

-- ---- 1. the codes that the question's party, account and security bear on the day

-- the question's number of that kind
unfoldable pub sought : Question → ℕ → ℕ
sought q kind = cond (eqb kind party) q.party (cond (eqb kind account) q.account q.security)

unfoldable pub borne_by : Question → Period → Bool
borne_by q p = eqb p.number (sought q p.kind) && covers p.first p.last q.day

unfoldable pub codes_borne : List ℕ → Question → ℕ → Bool
codes_borne b q = keys (λ p. p.csd) q.csd (period_at b) period_key (borne_by q) code_keys period_places

-- ---- 2. the rules of which a row matches

-- which values of criteria 0 to 9 the question meets, by the codes borne
abbrev pub tests : Question → (ℕ → Bool) → List (ℕ → Bool)
tests q codes =
    eqb q.role
    ∷ eqb q.movement
    ∷ eqb q.payment
    ∷ eqb q.transaction
    ∷ eqb q.security
    ∷ eqb q.account
    ∷ (λ v. codes (code_key v party))
    ∷ (λ v. codes (code_key v account))
    ∷ (λ v. codes (code_key v security))
    ∷ eqb q.currency
    ∷ []

-- the test of a criterion; none past the end
unfoldable pub test_at : List (ℕ → Bool) → ℕ → ℕ → Bool
test_at [] i v = false
test_at (f ∷ fs) zero v = f v
test_at (f ∷ fs) (suc i) v = test_at fs i v

-- a value that is empty, or met at its criterion
abbrev pub value_met : List (ℕ → Bool) → ℕ → ℕ → Bool
value_met fs i v = eqb v 0 || test_at fs i v

-- each of the ten
unfoldable pub values_met : List (ℕ → Bool) → List ℕ → Bool
values_met fs vs = all_below (λ i. value_met fs i (get_or vs i 0)) 10

unfoldable pub row_matches : Question → (ℕ → Bool) → Row → Bool
row_matches q codes w = eqb w.object q.object && values_met (tests q codes) w.values

unfoldable pub rows_matched : List ℕ → Question → (ℕ → Bool) → ℕ → Bool
rows_matched b q codes =
    keys (λ w. w.csd) q.csd (row_at b) row_key (row_matches q codes) rule_keys row_places

-- a table of that size of the rules with a matching row, each entry as the rows leave it
abbrev pub RowsMarked : ℕ → List ℕ → Question → (ℕ → Bool) → List ℕ → Type 0
RowsMarked size b q codes t = Keyed size (λ w. w.csd) q.csd (row_at b) row_key (row_matches q codes) (λ w m. 1) t row_places
