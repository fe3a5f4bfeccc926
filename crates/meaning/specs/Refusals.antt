-- The refusals' numbers; refusal 5 as far as no single field shows it, refusal 12 of a line in a batch (document 02,
-- request a), and refusals 6 to 10 in the order of document 01's list (its 'Refused lines'), with 13 after 9 and before
-- 10 (document 02, request c). Assumes nothing.
use Rattle.std.specs.Prelude.{ℕ, Bool, false, not, cond, ◌&&◌, ◌||◌, List, [], ◌∷◌, Option, Some, None, leb, ltb, eqb, length}
use Rattle.tables.specs.Count.{has}
use Rattle.meaning.specs.Forms.{wrongly_filled}
use Rattle.meaning.specs.Records.{
  TypeRecord,
  Rule,
  Row,
  Period,
  Book,
  Command,
  add_type,
  end_type,
  add_rule,
  reorder,
  delete_rule,
  add_row,
  delete_row,
  add_period,
  end_period,
  ask,
  type_quota,
  rule_quota,
  row_quota,
  period_quota,
}
use Rattle.meaning.specs.Keys.{is_type, is_rule, of_rule, is_row, is_period, clash, filled}
use Rattle.meaning.specs.declared.Refusal.{Refusal}
use Rattle.meaning.specs.declared.Refusal.TheVariants.{
  UnsoundBook,
  BadLine,
  NoLetter,
  FieldCount,
  BadField,
  TooEarly,
  NotFound,
  AlreadyHeld,
  Conflict,
  QuotaFull,
  BatchTooLarge,
  OtherDepository,
  LeavesType,
}

-- the papers' number of each refusal
abbrev pub number_of : Refusal → ℕ
number_of UnsoundBook = 1
number_of BadLine = 2
number_of NoLetter = 3
number_of FieldCount = 4
number_of BadField = 5
number_of TooEarly = 6
number_of NotFound = 7
number_of AlreadyHeld = 8
number_of Conflict = 9
number_of QuotaFull = 10
number_of BatchTooLarge = 11
number_of OtherDepository = 12
number_of LeavesType = 13

-- what no single field shows of refusal 5
unfoldable pub wrong : Command → Bool
-- processing is 3 with object 2, or first is after last
wrong (add_type day t) = (eqb t.processing 3 && eqb t.object 2) || ltb t.last t.first
wrong (end_type day type object last) = false
wrong (add_rule day r) = ltb r.last r.first
wrong (reorder type object sequence new) = false
wrong (delete_rule type object sequence) = false
wrong (add_row w) = false
wrong (delete_row w) = false
wrong (add_period day p) = ltb p.last p.first
wrong (end_period day kind number code first last) = false
wrong (ask q w) = wrongly_filled q.object q.movement q.payment

-- the refusal whose condition is the first that holds, if one does
abbrev pub first_of : List (Refusal × Bool) → Option Refusal
first_of [] = None
first_of (c ∷ cs) = cond c.1 (Some c.0) (first_of cs)

-- whether that refusal is the one given
abbrev pub is_given : Refusal → Option Refusal → Bool
is_given r None = false
is_given r (Some s) = eqb (number_of s) (number_of r)

-- the day is before the record's first or after its present last
abbrev pub outside : ℕ → ℕ → ℕ → Bool
outside day first last = ltb day first || ltb last day

-- the named type's period does not hold the day
unfoldable pub type_outside : ℕ → ℕ → ℕ → TypeRecord → Bool
unfolding is_type
type_outside type object day t = is_type type object t && outside day t.first t.last

-- 'R's period leaves the type's period': either end is outside the present period of the rule's type (document 02, c)
unfoldable pub leaves : Rule → TypeRecord → Bool
unfolding type_outside
leaves r t = type_outside r.type r.object r.first t || type_outside r.type r.object r.last t

-- the named period does not hold the new last day
unfoldable pub period_outside : ℕ → ℕ → ℕ → ℕ → ℕ → Period → Bool
unfolding is_period
period_outside kind number code first new p = is_period kind number code first p && outside new p.first p.last

-- the row's rule, with other criteria than the row fills
unfoldable pub other_criteria : Row → Rule → Bool
unfolding is_rule
other_criteria w r = is_rule w.type w.object w.sequence r && not (eqb r.criteria (filled w.values))

-- the conditions of a command, each with its refusal
unfoldable pub conditions : Book → Command → List (Refusal × Bool)
unfolding has is_type is_rule of_rule is_row is_period clash type_outside leaves period_outside other_criteria
conditions b (add_type day t) =
    (TooEarly, leb t.first day)
    ∷ (AlreadyHeld, has (is_type t.type t.object) b.types)
    ∷ (QuotaFull, leb type_quota (length b.types))
    ∷ []
conditions b (end_type day type object last) =
    (TooEarly, ltb last day)
    ∷ (NotFound, not (has (is_type type object) b.types))
    ∷ (Conflict, has (type_outside type object last) b.types)
    ∷ []
conditions b (add_rule day r) =
    (TooEarly, leb r.first day)
    ∷ (NotFound, not (has (is_type r.type r.object) b.types))
    ∷ (AlreadyHeld, has (is_rule r.type r.object r.sequence) b.rules)
    ∷ (LeavesType, has (leaves r) b.types)
    ∷ (QuotaFull, leb rule_quota (length b.rules))
    ∷ []
conditions b (reorder type object sequence new) =
    (NotFound, not (has (is_rule type object sequence) b.rules))
    ∷ (AlreadyHeld, has (is_rule type object new) b.rules)
    ∷ []
conditions b (delete_rule type object sequence) =
    (NotFound, not (has (is_rule type object sequence) b.rules))
    ∷ (Conflict, has (of_rule type object sequence) b.rows)
    ∷ []
conditions b (add_row w) =
    (NotFound, not (has (is_rule w.type w.object w.sequence) b.rules))
    ∷ (AlreadyHeld, has (is_row w) b.rows)
    ∷ (Conflict, has (other_criteria w) b.rules)
    ∷ (QuotaFull, leb row_quota (length b.rows))
    ∷ []
conditions b (delete_row w) = (NotFound, not (has (is_row w) b.rows)) ∷ []
conditions b (add_period day p) =
    (TooEarly, leb p.first day)
    ∷ (AlreadyHeld, has (clash p) b.periods)
    ∷ (QuotaFull, leb period_quota (length b.periods))
    ∷ []
conditions b (end_period day kind number code first last) =
    (TooEarly, ltb last day)
    ∷ (NotFound, not (has (is_period kind number code first) b.periods))
    ∷ (Conflict, has (period_outside kind number code first last) b.periods)
    ∷ []
conditions b (ask q w) = []

-- the earliest refusal whose condition holds, if one does. 12, where a line names another depository than its batch,
-- stands straight after 5 and before the command's own.
unfoldable pub refusal_sent : Bool → Book → Command → Option Refusal
unfolding conditions
refusal_sent elsewhere b k = first_of ((OtherDepository, elsewhere) ∷ conditions b k)

-- of a line that names its batch's depository, or was sent alone
unfoldable pub refusal : Book → Command → Option Refusal
unfolding refusal_sent
refusal b k = refusal_sent false b k
