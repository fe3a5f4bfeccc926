-- What a search over a list of rules that match finds: the sequence of the first one that is positive, or nothing. A
-- place of the list may be without a rule. Assumes nothing.
use Rattle.std.specs.Prelude.{ℕ, Bool, cond, List, [], ◌∷◌, eqb, Option, Some, None, unwrap_or}
use Rattle.meaning.specs.Records.{positive}
use Rattle.rules.specs.declared.ListedRule.{ListedRule}

-- a positive rule; each that is listed matches
abbrev pub may_decide : ListedRule → Bool
may_decide r = eqb r.sign positive

unfoldable pub first_positive : List (Option ListedRule) → Option ℕ
first_positive [] = None
first_positive (None ∷ rs) = first_positive rs
first_positive (Some r ∷ rs) = cond (may_decide r) (Some r.sequence) (first_positive rs)

-- the sequence that is named, 0 for none
abbrev pub sequence_of : Option ℕ → ℕ
sequence_of o = unwrap_or o 0
