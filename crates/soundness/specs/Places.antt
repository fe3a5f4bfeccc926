-- Soundness place by place, each beside its depository's whole lone book. Assumes nothing.
use Rattle.std.specs.Prelude.{ℕ, Bool, ◌&&◌, ◌||◌, List, length, nat_le}
use Rattle.meaning.specs.Records as M
use Rattle.meaning.specs.Fields.{within}
use Rattle.meaning.specs.Sound.{good_type, good_rule, good_row, good_period}
use Rattle.places.specs.Layout.{type_at, rule_at, row_at, period_at}
use Rattle.records.specs.Said.{type_of, rule_of, row_of, period_of}
use Rattle.records.specs.Free.{type_zero, rule_zero, row_zero, period_zero}
use Rattle.book.specs.Lone.{types_of, rules_of, rows_of, periods_of, lone_book}

-- ---- a record of depository a, good in its lone book, whose list is within its quota

unfoldable pub held_type : List ℕ → ℕ → M.TypeRecord → Bool
held_type b a t = good_type (lone_book a b) t && nat_le (length (types_of a b)) M.type_quota

unfoldable pub held_rule : List ℕ → ℕ → M.Rule → Bool
held_rule b a t = good_rule (lone_book a b) t && nat_le (length (rules_of a b)) M.rule_quota

unfoldable pub held_row : List ℕ → ℕ → M.Row → Bool
held_row b a t = good_row (lone_book a b) t && nat_le (length (rows_of a b)) M.row_quota

unfoldable pub held_period : List ℕ → ℕ → M.Period → Bool
held_period b a t = good_period (lone_book a b) t && nat_le (length (periods_of a b)) M.period_quota

-- ---- a place is free, or a depository's with such a record

abbrev pub place_ok : {P : Type 0} → (P → ℕ) → (P → Bool) → (P → Bool) → P → Bool
place_ok csd free held x = free x || (within 1 8 (csd x) && held x)

unfoldable pub type_ok : List ℕ → ℕ → Bool
type_ok b k = place_ok (λ r. r.csd) type_zero (λ r. held_type b r.csd (type_of r)) (type_at b k)

unfoldable pub rule_ok : List ℕ → ℕ → Bool
rule_ok b k = place_ok (λ r. r.csd) rule_zero (λ r. held_rule b r.csd (rule_of r)) (rule_at b k)

unfoldable pub row_ok : List ℕ → ℕ → Bool
row_ok b k = place_ok (λ r. r.csd) row_zero (λ r. held_row b r.csd (row_of r)) (row_at b k)

unfoldable pub period_ok : List ℕ → ℕ → Bool
period_ok b k = place_ok (λ r. r.csd) period_zero (λ r. held_period b r.csd (period_of r)) (period_at b k)
