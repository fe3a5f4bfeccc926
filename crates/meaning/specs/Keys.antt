-- How a record is known (document 01, 'Records'). Assumes nothing.
use Rattle.std.specs.Prelude.{ℕ, zero, suc, ◌+◌, ◌*◌, ◌/◌, Bool, ◌&&◌, List, [], ◌∷◌, leb, eqb}
use Rattle.meaning.specs.Text.{same}
use Rattle.meaning.specs.Records.{TypeRecord, Rule, Row, Period, Kept}

-- a type is known by type and object
unfoldable pub is_type : ℕ → ℕ → TypeRecord → Bool
is_type type object t = eqb t.type type && eqb t.object object

-- a rule by these and its sequence
unfoldable pub is_rule : ℕ → ℕ → ℕ → Rule → Bool
is_rule type object sequence r = eqb r.sequence sequence && eqb r.type type && eqb r.object object

-- the rows of a rule
unfoldable pub of_rule : ℕ → ℕ → ℕ → Row → Bool
of_rule type object sequence w = eqb w.sequence sequence && eqb w.type type && eqb w.object object

-- a row by its rule and its ten values
unfoldable pub is_row : Row → Row → Bool
unfolding of_rule
is_row a w = of_rule a.type a.object a.sequence w && same a.values w.values

-- a period by kind, number, code and first day
unfoldable pub is_period : ℕ → ℕ → ℕ → ℕ → Period → Bool
is_period kind number code first p =
    eqb p.first first && eqb p.code code && eqb p.number number && eqb p.kind kind

-- a kept instruction by its reference
unfoldable pub is_kept : ℕ → Kept → Bool
is_kept reference k = eqb k.reference reference

-- two periods of one kind, number and attribute share a day
unfoldable pub clash : Period → Period → Bool
clash a p =
    eqb p.kind a.kind && eqb p.number a.number && eqb (p.code / 100) (a.code / 100)
    && leb p.first a.last && leb a.first p.last

-- the criteria that a row fills, as the sum of their weights
abbrev pub filled : List ℕ → ℕ
filled [] = 0
filled (zero ∷ vs) = 2 * filled vs
filled (suc v ∷ vs) = 1 + 2 * filled vs
