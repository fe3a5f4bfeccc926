-- How a question is judged (document 01). Assumes nothing.
use Prim.Native.Nat.{ℕ, zero, suc}
use Rattle.std.specs.Prelude.{Bool, true, ◌&&◌, leb, Option, Some, None, is_some}
use Rattle.std.proofs.Math.Bool.{not}
use mathlib.Core.List.{List, [], ◌∷◌}
use Rattle.std.proofs.Math.Dec.{eqb}
use Rattle.tables.specs.Count.{has, least}
use Rattle.meaning.specs.Records.{
  TypeRecord,
  Rule,
  Book,
  Question,
  positive,
  negative,
  party,
  account,
  security,
  rejection,
  validation_hold,
  party_hold,
}
use Rattle.meaning.specs.Keys.{of_rule}
use Rattle.meaning.specs.declared.Deciding.{Deciding}
use Rattle.meaning.specs.declared.Verdict.{Verdict}

-- first and last day both count
abbrev pub covers : ℕ → ℕ → ℕ → Bool
covers first last day = leb first day && leb day last

-- each filled value is met
abbrev pub meets_all : List (ℕ → Bool) → List ℕ → Bool
meets_all [] vs = true
meets_all (meets ∷ ms) [] = true
meets_all (meets ∷ ms) (zero ∷ vs) = meets_all ms vs
meets_all (meets ∷ ms) (suc v ∷ vs) = meets (suc v) && meets_all ms vs

-- the type and sequence that decide
abbrev pub by : ℕ → ℕ → Deciding
by type sequence = record { number = type; sequence = sequence }

-- an instruction is rejected if a rule decides so
abbrev pub rejected : Verdict → Bool
rejected v = is_some v.rejection

module _ (b : Book) (q : Question) where
  -- a period with exactly that code covers the day for that party, account or security
  unfoldable pub has_code : ℕ → ℕ → ℕ → Bool
  unfolding has
  has_code kind number code =
      has
      (λ p. eqb p.number number && eqb p.kind kind && eqb p.code code && covers p.first p.last q.day)
      b.periods

  -- which values of criteria 0 to 9 the question meets; an empty field is 0 and meets no filled value
  unfoldable pub tests : List (ℕ → Bool)
  unfolding has_code
  tests =
      eqb q.party_type
      ∷ eqb q.movement
      ∷ eqb q.payment
      ∷ eqb q.transaction
      ∷ eqb q.security
      ∷ eqb q.account
      ∷ has_code party q.party
      ∷ has_code account q.account
      ∷ has_code security q.security
      ∷ eqb q.currency
      ∷ []

  -- a rule matches if any of its rows does
  unfoldable pub matches : Rule → Bool
  unfolding has tests of_rule
  matches r = has (λ w. of_rule r.type r.object r.sequence w && meets_all tests w.values) b.rows

  -- a current rule of that type and sign that matches
  unfoldable pub rule_applies : ℕ → ℕ → Rule → Bool
  unfolding matches
  rule_applies type sign r =
      eqb r.type type && eqb r.object q.object && eqb r.sign sign && covers r.first r.last q.day
      && matches r

  -- a current type of that processing, of which a positive rule matches and no negative one does
  unfoldable pub applies : ℕ → TypeRecord → Bool
  unfolding has rule_applies
  applies processing t =
      eqb t.object q.object && eqb t.processing processing && covers t.first t.last q.day
      && has (rule_applies t.type positive) b.rules && not (has (rule_applies t.type negative) b.rules)

  -- the lowest type of that processing that applies; 0 where none does
  unfoldable pub named : ℕ → ℕ
  unfolding applies least
  named processing = least (λ t. t.type) (applies processing) b.types

  -- the first positive rule of that type, in rising sequence, that matches; 0 where none does
  unfoldable pub deciding : ℕ → ℕ
  unfolding rule_applies least
  deciding type = least (λ r. r.sequence) (rule_applies type positive) b.rules

  -- the type, if any, with its deciding rule
  unfoldable pub decided : ℕ → Option Deciding
  unfolding deciding
  decided zero = None
  decided (suc type) = Some (by (suc type) (deciding (suc type)))

  -- by the types that reject, hold for validation and hold for the party, 0 for none: a rejected instruction shows no
  -- hold, an accepted one may carry both
  unfoldable pub verdict : ℕ → ℕ → ℕ → Verdict
  unfolding decided
  verdict zero validating holding =
      record { rejection = None; validation = decided validating; party = decided holding }
  verdict (suc type) validating holding =
      record { rejection = decided (suc type); validation = None; party = None }

  -- rejection comes first, then CSD validation hold, then party hold
  unfoldable pub judged : Verdict
  unfolding verdict named
  judged = verdict (named rejection) (named validation_hold) (named party_hold)
