-- The nine edits on the bytes of the shared book, over the meaning's command. Assumes nothing.
-- The papers leave the place of a record free: a record more goes to a place that is free, one that is named is changed
-- where it stands.
use Rattle.std.specs.Prelude.{ℕ, zero, suc, ◌≡◌, ◌<◌, ◌≤◌, Bool, true, false, cond, List, ltb}
use Rattle.tables.specs.Table.{Table, hit, store}
use Rattle.meaning.specs.Records as M
use Rattle.places.specs.Layout.{type_at, rule_at, zero_rule, row_places, zero_row, period_at}
use Rattle.places.specs.declared.RestrictionType.{RestrictionType}
use Rattle.places.specs.declared.Rule.{Rule}
use Rattle.places.specs.declared.Row.{Row}
use Rattle.places.specs.declared.Period.{Period}
use Rattle.records.specs.Tables.{of_types, of_rules, of_rows, of_periods, table}
use Rattle.records.specs.Keyed.{period_key}
use Rattle.records.specs.declared.TypeAsk.TheVariants as Types
use Rattle.records.specs.declared.RuleAsk.TheVariants as Rules
use Rattle.records.specs.declared.RowAsk.TheVariants as Rows
use Rattle.records.specs.declared.PeriodAsk.TheVariants as Periods
use Rattle.book.specs.Places.{type_place, rule_place, row_place, period_place}
use Rattle.edits.specs.Moves.{rule_with, carry_rows}

-- ---- the record of depository c at a place

abbrev pub type_in : ℕ → M.TypeRecord → RestrictionType
type_in c t = record { csd = c; number = t.type; object = t.object; processing = t.processing; first = t.first; last = t.last }

abbrev pub rule_in : ℕ → M.Rule → Rule
rule_in c r = record {
  csd = c;
  number = r.type;
  object = r.object;
  sequence = r.sequence;
  sign = r.sign;
  criteria = r.criteria;
  first = r.first;
  last = r.last;
}

abbrev pub row_in : ℕ → M.Row → Row
row_in c w = record { csd = c; number = w.type; object = w.object; sequence = w.sequence; values = w.values }

abbrev pub period_in : ℕ → M.Period → Period
period_in c p = record { csd = c; kind = p.kind; number = p.number; code = p.code; first = p.first; last = p.last }

-- with another last day
abbrev pub type_ended : ℕ → RestrictionType → RestrictionType
type_ended d r =
    record { csd = r.csd; number = r.number; object = r.object; processing = r.processing; first = r.first; last = d }

abbrev pub period_ended : ℕ → Period → Period
period_ended d r = record { csd = r.csd; kind = r.kind; number = r.number; code = r.code; first = r.first; last = d }

-- ---- a free place: a place of depository 0

abbrev pub free_type : List ℕ → ℕ
free_type b = type_place b 0 Types.Any

abbrev pub free_rule : List ℕ → ℕ
free_rule b = rule_place b 0 Rules.Any

abbrev pub free_row : List ℕ → ℕ
free_row b = row_place b 0 Rows.Any

abbrev pub free_period : List ℕ → ℕ
free_period b = period_place b 0 Periods.Any

-- ---- stores: nothing where there is no place

-- in a table of that many places, by its own store
abbrev pub stored : {P : Type 0} → ℕ → (List ℕ → ℕ → P → List ℕ) → List ℕ → ℕ → P → List ℕ
stored places put b i r = cond (ltb i places) (put b i r) b

-- the record at place n is stored as what a call makes of it; nothing is where there is no such place
pub record Changed {P : Type 0} (places : ℕ) (at : List ℕ → ℕ → P) (put : List ℕ → ℕ → P → List ℕ) (made : P → P → Type 0) (b : List ℕ) (n : ℕ) (b' : List ℕ) : Type 0 where
  pub there : n < places → (r : P) × (made (at b n) r × (b' ≡ put b n r))
  pub nowhere : places ≤ n → b' ≡ b

-- place i after a pass came by: a record of depository a that is as asked is stored as what a call makes of it and of
-- the book as it is there; and the places below n one after the other
module _ {P R : Type 0} (t : Table P R) (at : List ℕ → ℕ → P) (put : List ℕ → ℕ → P → List ℕ) (a : ℕ) (q : R → Bool) (made : List ℕ → P → P → Type 0) where
  pub record ChangedAt (b : List ℕ) (i : ℕ) (b' : List ℕ) : Type 0 where
    pub there : hit t b a q i ≡ true → (r : P) × (made b (at b i) r × (b' ≡ put b i r))
    pub elsewhere : hit t b a q i ≡ false → b' ≡ b

  unfoldable pub ChangedEach : List ℕ → ℕ → List ℕ → Type 0
  ChangedEach b zero b' = b' ≡ b
  ChangedEach b (suc n) b' = (c : List ℕ) × (ChangedEach b n c × ChangedAt c n b')

unfoldable pub store_type : List ℕ → ℕ → RestrictionType → List ℕ
store_type b i r = store (table of_types) b i r

unfoldable pub store_rule : List ℕ → ℕ → Rule → List ℕ
store_rule b i r = store (table of_rules) b i r

unfoldable pub store_row : List ℕ → ℕ → Row → List ℕ
store_row b i r = store (table of_rows) b i r

unfoldable pub store_period : List ℕ → ℕ → Period → List ℕ
store_period b i r = store (table of_periods) b i r

-- ---- the edits

-- E and Z
unfoldable pub ended_type : List ℕ → ℕ → ℕ → ℕ → ℕ → List ℕ
ended_type b c n o last = let i = type_place b c (Types.Named (record { number = n; object = o })) in store_type b i (type_ended last (type_at b i))

unfoldable pub ended_period : List ℕ → Period → List ℕ
ended_period b p =
    let i = period_place b p.csd (Periods.Named (period_key p)) in
    store_period b i (period_ended p.last (period_at b i))

-- the rule that is named
abbrev pub rule_named : List ℕ → ℕ → ℕ → ℕ → ℕ → ℕ
rule_named b c n o s = rule_place b c (Rules.Named (record { sequence = s; number = n; object = o }))

-- D and N
unfoldable pub deleted_rule : List ℕ → ℕ → ℕ → ℕ → ℕ → List ℕ
deleted_rule b c n o s = store_rule b (rule_named b c n o s) zero_rule

unfoldable pub deleted_row : List ℕ → ℕ → M.Row → List ℕ
deleted_row b c w = store_row b (row_place b c (Rows.Same (row_in c w))) zero_row

-- O
unfoldable pub reordered_rule : List ℕ → ℕ → ℕ → ℕ → ℕ → ℕ → List ℕ
reordered_rule b c n o s new =
    let i = rule_named b c n o s in
    carry_rows c n o s new (store_rule b i (rule_with new (rule_at b i))) row_places

unfoldable pub edit_in : List ℕ → ℕ → M.Command → List ℕ
edit_in b c (M.add_type day t) = store_type b (free_type b) (type_in c t)
edit_in b c (M.end_type day n o last) = ended_type b c n o last
edit_in b c (M.add_rule day r) = store_rule b (free_rule b) (rule_in c r)
edit_in b c (M.reorder n o s new) = reordered_rule b c n o s new
edit_in b c (M.delete_rule n o s) = deleted_rule b c n o s
edit_in b c (M.add_row w) = store_row b (free_row b) (row_in c w)
edit_in b c (M.delete_row w) = deleted_row b c w
edit_in b c (M.add_period day p) = store_period b (free_period b) (period_in c p)
edit_in b c (M.end_period day κ n o first last) =
    ended_period b (record { csd = c; kind = κ; number = n; code = o; first = first; last = last })
edit_in b c (M.ask q x) = b
