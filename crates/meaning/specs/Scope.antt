-- Judging by a scope: which types and which rules of a lone book count (document 02, request d). What is judged by a
-- scope is judged over the book in which only these are; there is no second definition of judging. Assumes nothing.
use Rattle.std.specs.Prelude.{ℕ, Bool, true, ◌&&◌, cond, leb, eqb}
use Rattle.tables.specs.Count.{has, keep}
use Rattle.meaning.specs.Records.{TypeRecord, Rule, Book}
use Rattle.meaning.specs.Keys.{is_type}

pub record Scope : Type 0 where
  pub types : TypeRecord → Bool
  pub rules : Rule → Bool

-- every type and every rule: a question is judged so
abbrev pub whole : Scope
whole = record { types = λ t. true; rules = λ r. true }

-- the lone book in which only the types and the rules of the scope are
unfoldable pub scoped : Scope → Book → Book
unfolding keep
scoped s b = record {
  types = keep s.types b.types;
  rules = keep s.rules b.rules;
  rows = b.rows;
  periods = b.periods;
}

-- ---- the rules that are new on a day

abbrev pub later : ℕ → ℕ → ℕ
later a b = cond (leb a b) b a

-- 'rules whose first current day is this day, that day being the later of the rule's and its type's first days'
unfoldable pub is_new : Book → ℕ → Rule → Bool
unfolding has is_type
is_new b day r = has (λ t. is_type r.type r.object t && eqb (later r.first t.first) day) b.types

-- every type, and only the rules that are new on that day
abbrev pub only_new : Book → ℕ → Scope
only_new b day = record { types = λ t. true; rules = is_new b day }
