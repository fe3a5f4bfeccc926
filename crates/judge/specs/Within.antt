-- How a question is judged by a scope (document 02, request d): which rules count and which types are passed over, over
-- the places of the lent book; and what that is in the written meaning, judging over a filtered lone book. Assumes
-- nothing.
use Rattle.std.specs.Prelude.{ℕ, ◌≡◌, Bool, true, false, ◌&&◌, ◌||◌, not, cond, List, eqb}
use Rattle.meaning.specs.Records as M
use Rattle.meaning.specs.Records.{validation_hold, party_hold}
use Rattle.meaning.specs.Judging.{judged}
use Rattle.meaning.specs.Sound.{sound_lone}
use Rattle.meaning.specs.Scope as meant
use Rattle.meaning.specs.Scope.{scoped, is_new}
use Rattle.meaning.specs.Pending.{exempted}
use Rattle.meaning.specs.declared.Verdict.{Verdict}
use Rattle.places.specs.declared.RestrictionType.{RestrictionType}
use Rattle.book.specs.Lone.{lone_book}
use Rattle.newrules.specs.NewRules.{types_begun, new_rules}
use Rattle.commands.specs.Asked.{question_of}
use Rattle.commands.specs.declared.Question.{Question}
use Rattle.judge.specs.Stages.{signs_matched, types_exempted, verdict_by, rows_on}
use Rattle.judge.specs.declared.Scope.{Scope}

-- ---- by the book's bytes

-- nothing is left out: a question is judged so
abbrev pub whole : Scope
whole = record { fresh = false; validating = false; holding = false }

-- no type is passed over by its number
abbrev pub none_passed : ℕ → Bool
none_passed type = false

-- a type is passed over by its number, or by its processing while that hold is on
abbrev pub passed_over : Scope → (ℕ → Bool) → ℕ → ℕ → Bool
passed_over s passed type processing =
    passed type || ((s.validating && eqb processing validation_hold) || (s.holding && eqb processing party_hold))

-- by record
unfoldable pub type_passed : Scope → (ℕ → Bool) → RestrictionType → Bool
type_passed s passed t = passed_over s passed t.number t.processing

-- the rules that count, of which a row matches: told whether only those count that are new on the question's day
unfoldable pub rows_within : List ℕ → Question → Bool → ℕ → Bool
rows_within b q fresh = cond fresh (new_rules b q (types_begun b q) (rows_on b q)) (rows_on b q)

unfoldable pub judged_within : List ℕ → Question → Scope → (ℕ → Bool) → Verdict
unfolding type_passed rows_within verdict_by
judged_within b q s passed = verdict_by b q (type_passed s passed) (rows_within b q s.fresh)

-- the types of which a negative rule that counts matches, also where they are passed over
unfoldable pub exempted_within : List ℕ → Question → Scope → ℕ → Bool
unfolding rows_within
exempted_within b q s = types_exempted b q (signs_matched b q (rows_within b q s.fresh))

-- ---- in the written meaning

-- the rules that count
abbrev pub counted : Scope → M.Book → ℕ → M.Rule → Bool
counted s lone day r = cond s.fresh (is_new lone day r) true

-- the types that are not passed over, and the rules that count
abbrev pub scope_of : Scope → (ℕ → Bool) → M.Book → ℕ → meant.Scope
scope_of s passed lone day = record {
  types = λ t. not (passed_over s passed t.type t.processing);
  rules = counted s lone day;
}

-- every type, and the rules that count
abbrev pub every_type : Scope → M.Book → ℕ → meant.Scope
every_type s lone day = record { types = λ t. true; rules = counted s lone day }

-- the lone book of the question's depository, with only what the scope has
abbrev pub lone_within : List ℕ → Question → Scope → (ℕ → Bool) → M.Book
lone_within b q s passed = scoped (scope_of s passed (lone_book q.csd b) q.day) (lone_book q.csd b)

-- with every type
abbrev pub lone_counted : List ℕ → Question → Scope → M.Book
lone_counted b q s = scoped (every_type s (lone_book q.csd b) q.day) (lone_book q.csd b)

-- Judging by a scope is judging the filtered lone book.
abbrev pub JudgedWithin : Type 0
JudgedWithin =
    (b : List ℕ) (q : Question) (s : Scope) (passed : ℕ → Bool) → sound_lone (lone_book q.csd b) ≡ true
    → judged_within b q s passed ≡ judged (lone_within b q s passed) (question_of q)

-- And the types exempted are those of the lone book in which only the rules that count are.
abbrev pub ExemptedWithin : Type 0
ExemptedWithin =
    (b : List ℕ) (q : Question) (s : Scope) → sound_lone (lone_book q.csd b) ≡ true
    → exempted_within b q s ≡ exempted (lone_counted b q s) (question_of q)
