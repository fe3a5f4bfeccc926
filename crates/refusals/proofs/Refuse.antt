-- What the refusals of each letter show, from what the calls ensure.
use Prim.Native.Nat.{ℕ}
use mathlib.Core.Path.{◌≡◌, sym}
use mathlib.Core.Bool.{Bool, not, ◌||◌}
use mathlib.Core.List.{List, [], ◌∷◌}
use Rattle.std.specs.Prelude.{Option}
use lib.Dec.{leb, ltb}
use lib.ListN.{length}
use Rattle.tables.specs.Count.{has}
use Rattle.tables.specs.Table.{list_of}
use Rattle.records.specs.Tables.{of_types, of_rules, of_rows, of_periods, table}
use Rattle.tables.proofs.Lists.{has_either}
use Rattle.meaning.specs.Records as M
use Rattle.meaning.specs.Refusals.{leaves, first_of, conditions, refusal}
use Rattle.meaning.specs.declared.Refusal.{Refusal}
use Rattle.meaning.specs.declared.Refusal.TheVariants.{TooEarly, NotFound, AlreadyHeld, Conflict, QuotaFull, LeavesType}
use Rattle.places.specs.declared.RestrictionType.{RestrictionType}
use Rattle.places.specs.declared.Rule.{Rule}
use Rattle.places.specs.declared.Row.{Row}
use Rattle.places.specs.declared.Period.{Period}
use Rattle.records.specs.Said.{type_of, rule_of, row_of, period_of}
use Rattle.records.specs.Asks.{type_meets, rule_meets, row_meets, period_meets}
use Rattle.records.specs.declared.TypeAsk.TheVariants as Types
use Rattle.records.specs.declared.RuleAsk.TheVariants as Rules
use Rattle.records.specs.declared.RowAsk.TheVariants as Rows
use Rattle.records.specs.declared.PeriodAsk.TheVariants as Periods
use Rattle.records.specs.Keyed.{type_key, rule_key, row_key, period_key}
use Rattle.records.specs.declared.TypeKey.{TypeKey}
use Rattle.records.specs.declared.RuleKey.{RuleKey}
use Rattle.records.specs.declared.PeriodKey.{PeriodKey}
use Rattle.commands.specs.Asked.{asked_by, asked}
use Rattle.commands.specs.declared.What.{What}
use Rattle.commands.specs.declared.Command.{Command}
use Rattle.book.specs.Lone.{types_of, rules_of, rows_of, periods_of, lone_book}
use Rattle.refusals.specs.Earliest.{Earliest}
use Rattle.refusals.proofs.First.{earliest}

module _ (b : List ℕ) (c d : ℕ) (x : Option Refusal) where
  pub refused_add_type : (r : RestrictionType) (k : TypeKey) (held full : Bool)
      → x ≡ first_of ((TooEarly, leb r.first d) ∷ (AlreadyHeld, held) ∷ (QuotaFull, full) ∷ [])
      → full ≡ leb M.type_quota (length (list_of (table of_types) c b))
      → held ≡ has (type_meets (Types.Named k)) (list_of (table of_types) c b) → k ≡ type_key r
      → x ≡ refusal (lone_book c b) (M.add_type d (type_of r))
  unfolding refusal type_meets type_of types_of rules_of rows_of periods_of
  refused_add_type r k held full e f g h = rw (e, f, g, h)

  pub refused_end_type : (k : TypeKey) (last : ℕ) (held out : Bool)
      → x ≡ first_of ((TooEarly, ltb last d) ∷ (NotFound, not held) ∷ (Conflict, out) ∷ [])
      → out ≡ has (type_meets (Types.Outside k last)) (list_of (table of_types) c b)
      → held ≡ has (type_meets (Types.Named k)) (list_of (table of_types) c b)
      → x ≡ refusal (lone_book c b) (M.end_type d k.number k.object last)
  unfolding refusal type_meets types_of rules_of rows_of periods_of
  refused_end_type k last held out e f g = rw (e, f, g)

  pub refused_add_rule : (r : Rule) (k : RuleKey) (typed held begins ends full : Bool)
      → x ≡ first_of ((TooEarly, leb r.first d) ∷ (NotFound, not typed) ∷ (AlreadyHeld, held) ∷ (LeavesType, begins || ends) ∷ (QuotaFull, full) ∷ [])
      → full ≡ leb M.rule_quota (length (list_of (table of_rules) c b))
      → ends ≡ has (type_meets (Types.Outside (record { number = r.number; object = r.object }) r.last)) (list_of (table of_types) c b)
      → begins ≡ has (type_meets (Types.Outside (record { number = r.number; object = r.object }) r.first)) (list_of (table of_types) c b)
      → held ≡ has (rule_meets (Rules.Named k)) (list_of (table of_rules) c b) → k ≡ rule_key r
      → typed ≡ has (type_meets (Types.Named (record { number = r.number; object = r.object }))) (list_of (table of_types) c b)
      → x ≡ refusal (lone_book c b) (M.add_rule d (rule_of r))
  unfolding refusal type_meets rule_meets rule_of leaves types_of rules_of rows_of periods_of
  refused_add_rule r k typed held begins ends full e f g h i l j =
      let either : (begins || ends) ≡ has (leaves (rule_of r)) (list_of (table of_types) c b) = rw (g, h) (sym (has_either _ _ (list_of (table of_types) c b))) in
      rw (e, either, f, i, l, j)

  pub refused_reorder : (k : RuleKey) (new : ℕ) (held taken : Bool)
      → x ≡ first_of ((NotFound, not held) ∷ (AlreadyHeld, taken) ∷ [])
      → taken ≡ has (rule_meets (Rules.Named (record { sequence = new; number = k.number; object = k.object }))) (list_of (table of_rules) c b)
      → held ≡ has (rule_meets (Rules.Named k)) (list_of (table of_rules) c b)
      → x ≡ refusal (lone_book c b) (M.reorder k.number k.object k.sequence new)
  unfolding refusal rule_meets types_of rules_of rows_of periods_of
  refused_reorder k new held taken e f g = rw (e, f, g)

  pub refused_delete_rule : (k : RuleKey) (held rows : Bool) → x ≡ first_of ((NotFound, not held) ∷ (Conflict, rows) ∷ [])
      → rows ≡ has (row_meets (Rows.OfRule k)) (list_of (table of_rows) c b)
      → held ≡ has (rule_meets (Rules.Named k)) (list_of (table of_rules) c b)
      → x ≡ refusal (lone_book c b) (M.delete_rule k.number k.object k.sequence)
  unfolding refusal rule_meets row_meets types_of rules_of rows_of periods_of
  refused_delete_rule k held rows e f g = rw (e, f, g)

  pub refused_add_row : (w : Row) (k : RuleKey) (ruled held other full : Bool)
      → x ≡ first_of ((NotFound, not ruled) ∷ (AlreadyHeld, held) ∷ (Conflict, other) ∷ (QuotaFull, full) ∷ [])
      → full ≡ leb M.row_quota (length (list_of (table of_rows) c b))
      → other ≡ has (rule_meets (Rules.Other w)) (list_of (table of_rules) c b)
      → held ≡ has (row_meets (Rows.Same w)) (list_of (table of_rows) c b)
      → ruled ≡ has (rule_meets (Rules.Named k)) (list_of (table of_rules) c b) → k ≡ row_key w
      → x ≡ refusal (lone_book c b) (M.add_row (row_of w))
  unfolding refusal rule_meets row_meets row_of types_of rules_of rows_of periods_of
  refused_add_row w k ruled held other full e f g h i j = rw (e, f, g, h, i, j)

  pub refused_delete_row : (w : Row) (held : Bool) → x ≡ first_of ((NotFound, not held) ∷ [])
      → held ≡ has (row_meets (Rows.Same w)) (list_of (table of_rows) c b) → x ≡ refusal (lone_book c b) (M.delete_row (row_of w))
  unfolding refusal row_meets types_of rules_of rows_of periods_of
  refused_delete_row w held e f = rw (e, f)

  pub refused_add_period : (p : Period) (clashes full : Bool)
      → x ≡ first_of ((TooEarly, leb p.first d) ∷ (AlreadyHeld, clashes) ∷ (QuotaFull, full) ∷ [])
      → full ≡ leb M.period_quota (length (list_of (table of_periods) c b))
      → clashes ≡ has (period_meets (Periods.Clash p)) (list_of (table of_periods) c b)
      → x ≡ refusal (lone_book c b) (M.add_period d (period_of p))
  unfolding refusal period_meets period_of types_of rules_of rows_of periods_of
  refused_add_period p clashes full e f g = rw (e, f, g)

  pub refused_end_period : (p : Period) (k : PeriodKey) (held out : Bool)
      → x ≡ first_of ((TooEarly, ltb p.last d) ∷ (NotFound, not held) ∷ (Conflict, out) ∷ [])
      → out ≡ has (period_meets (Periods.Outside k p.last)) (list_of (table of_periods) c b)
      → held ≡ has (period_meets (Periods.Named k)) (list_of (table of_periods) c b) → k ≡ period_key p
      → x ≡ refusal (lone_book c b) (M.end_period d p.kind p.number p.code p.first p.last)
  unfolding refusal period_meets types_of rules_of rows_of periods_of
  refused_end_period p k held out e f g h = rw (e, f, g, h)

-- ---- of a command

module _ (b : List ℕ) (c : Command) (w : What) (r : Option Refusal) where
  pub refused_as : c.what ≡ w → r ≡ refusal (lone_book c.csd b) (asked_by c.day w)
      → r ≡ refusal (lone_book c.csd b) (asked c)
  refused_as e f = rw e f

  pub refused_first : c.what ≡ w → r ≡ refusal (lone_book c.csd b) (asked_by c.day w)
      → Earliest (conditions (lone_book c.csd b) (asked c)) r
  refused_first e f = rw (refused_as e f) (earliest (lone_book c.csd b) (asked c))
