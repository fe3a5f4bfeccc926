-- What an accepted edit makes of a lone book (document 01, 'One depository alone'), and when what it puts in is in
-- range. Assumes nothing.
use Rattle.std.specs.Prelude.{ℕ, Bool, true, List, ◌∷◌}
use Rattle.tables.specs.Count.{without, change}
use Rattle.meaning.specs.Records.{
  TypeRecord,
  Rule,
  Row,
  Period,
  Book,
  Command,
  add_type,
  end_type,
  add_rule,
  reorder,
  delete_rule,
  add_row,
  delete_row,
  add_period,
  end_period,
  ask,
}
use Rattle.meaning.specs.Forms.{holds, day as day_form, sequence_form}
use Rattle.meaning.specs.Sound.{type_fits, rule_fits, row_fits, period_fits}
use Rattle.meaning.specs.Keys.{is_type, is_rule, of_rule, is_row, is_period}

-- the record with another last day
abbrev pub type_until : ℕ → TypeRecord → TypeRecord
type_until last t =
    record { type = t.type; object = t.object; processing = t.processing; first = t.first; last = last }

abbrev pub period_until : ℕ → Period → Period
period_until last p = record { kind = p.kind; number = p.number; code = p.code; first = p.first; last = last }

-- the record with another sequence
abbrev pub rule_moved : ℕ → Rule → Rule
rule_moved sequence r = record {
  type = r.type;
  object = r.object;
  sequence = sequence;
  sign = r.sign;
  criteria = r.criteria;
  first = r.first;
  last = r.last;
}

abbrev pub row_moved : ℕ → Row → Row
row_moved sequence w = record { type = w.type; object = w.object; sequence = sequence; values = w.values }

-- the book with another list
abbrev pub with_types : List TypeRecord → Book → Book
with_types ts b = record { types = ts; rules = b.rules; rows = b.rows; periods = b.periods }

abbrev pub with_rules : List Rule → Book → Book
with_rules rs b = record { types = b.types; rules = rs; rows = b.rows; periods = b.periods }

abbrev pub with_rows : List Row → Book → Book
with_rows ws b = record { types = b.types; rules = b.rules; rows = ws; periods = b.periods }

abbrev pub with_periods : List Period → Book → Book
with_periods ps b = record { types = b.types; rules = b.rules; rows = b.rows; periods = ps }

-- T, R, M and A put in the record that the line gives; E and Z make the named record's last day the new one; O gives
-- the rule, and each of its rows, the new sequence; D and N take the named record out
unfoldable pub edited : Book → Command → Book
unfolding without change is_type is_rule of_rule is_row is_period
edited b (add_type day t) = with_types (t ∷ b.types) b
edited b (end_type day type object last) = with_types (change (is_type type object) (type_until last) b.types) b
edited b (add_rule day r) = with_rules (r ∷ b.rules) b
edited b (reorder type object sequence new) =
    with_rows (change (of_rule type object sequence) (row_moved new) b.rows)
    (with_rules (change (is_rule type object sequence) (rule_moved new) b.rules) b)
edited b (delete_rule type object sequence) = with_rules (without (is_rule type object sequence) b.rules) b
edited b (add_row w) = with_rows (w ∷ b.rows) b
edited b (delete_row w) = with_rows (without (is_row w) b.rows) b
edited b (add_period day p) = with_periods (p ∷ b.periods) b
edited b (end_period day kind number code first last) =
    with_periods (change (is_period kind number code first) (period_until last) b.periods) b
edited b (ask q w) = b

-- what a command would put into a book is in its range
unfoldable pub fits : Command → Bool
unfolding holds type_fits rule_fits row_fits period_fits
fits (add_type day t) = type_fits t
fits (end_type day type object last) = holds day_form last
fits (add_rule day r) = rule_fits r
fits (reorder type object sequence new) = holds sequence_form new
fits (delete_rule type object sequence) = true
fits (add_row w) = row_fits w
fits (delete_row w) = true
fits (add_period day p) = period_fits p
fits (end_period day kind number code first last) = holds day_form last
fits (ask q w) = true
