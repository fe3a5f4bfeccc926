-- What the arms of the code's matches on a question return.
use Prim.Native.Nat.{ℕ}
use mathlib.Core.Path.{◌≡◌, refl, sym, ap, ◌∙◌}
use mathlib.Core.Bool.{Bool, true, ◌&&◌}
use mathlib.Core.List.{List, [], ◌∷◌}
use Rattle.std.specs.Cmp.Lexicographic.{pointwise}
use lib.Dec.{eqb}
use borrow.Author.Tests.{eq-eqb, ne_eqb}
use Rattle.meaning.specs.Records as M
use Rattle.meaning.specs.Records.{validation_hold, party_hold}
use Rattle.meaning.specs.Pending.{held_since}
use Rattle.meaning.specs.Text.{same}
use Rattle.meaning.specs.Keys.{is_rule, is_row, is_kept}
use Rattle.places.specs.declared.Row.{Row}
use Rattle.places.specs.declared.Kept.{Kept}
use Rattle.records.specs.Said.{row_of, instruction_of}
use Rattle.records.specs.Keyed.{row_key}
use Rattle.records.specs.Asks.{type_meets, rule_meets, row_meets, period_meets, instruction_meets}
use Rattle.records.specs.declared.TypeAsk.{TypeAsk}
use Rattle.records.specs.declared.TypeAsk.TheVariants as Types
use Rattle.records.specs.declared.RuleAsk.{RuleAsk}
use Rattle.records.specs.declared.RuleAsk.TheVariants as Rules
use Rattle.records.specs.declared.RuleKey.{RuleKey}
use Rattle.records.specs.declared.RowAsk.{RowAsk}
use Rattle.records.specs.declared.RowAsk.TheVariants as Rows
use Rattle.records.specs.declared.PeriodAsk.{PeriodAsk}
use Rattle.records.specs.declared.PeriodAsk.TheVariants as Periods
use Rattle.records.specs.declared.InstructionAsk.{InstructionAsk}
use Rattle.records.specs.declared.InstructionAsk.TheVariants as Instructions

pub type_any : (q : TypeAsk) (t : M.TypeRecord) → q ≡ Types.Any → true ≡ type_meets q t
unfolding type_meets
type_any q t e = rw e

pub rule_any : (q : RuleAsk) (t : M.Rule) → q ≡ Rules.Any → true ≡ rule_meets q t
unfolding rule_meets
rule_any q t e = rw e

pub rule_named : (q : RuleAsk) (t : M.Rule) (k : RuleKey) (r : Bool) → q ≡ Rules.Named k
    → r ≡ is_rule k.number k.object k.sequence t → r ≡ rule_meets q t
unfolding rule_meets
rule_named q t k r e f = rw (e, f)

pub rule_met : (q q' : RuleAsk) (t : M.Rule) (r : Bool) → q ≡ q' → r ≡ rule_meets q' t → r ≡ rule_meets q t
rule_met q q' t r e f = rw (e, f)

pub row_any : (q : RowAsk) (t : M.Row) → q ≡ Rows.Any → true ≡ row_meets q t
unfolding row_meets
row_any q t e = rw e

-- the values' comparison is the meaning's
same_pointwise : (u v : List ℕ) → pointwise eqb u v ≡ same u v
same_pointwise [] [] = refl
same_pointwise [] (y ∷ v) = refl
same_pointwise (x ∷ u) [] = refl
same_pointwise (x ∷ u) (y ∷ v) = ap (λ t. eqb x y && t) (same_pointwise u v)

-- rows of one rule are the same if their values are
pub same_row : (t w : Row) (k : RuleKey) (met r : Bool) → r ≡ pointwise eqb w.values t.values → met ≡ true
    → met ≡ row_meets (Rows.OfRule k) (row_of t) → k ≡ row_key w → r ≡ row_meets (Rows.Same w) (row_of t)
unfolding row_meets row_of is_row
same_row t w k met r v g f e =
    let h : row_meets (Rows.OfRule (row_key w)) (row_of t) ≡ true = ap (λ z. row_meets (Rows.OfRule z) (row_of t)) (sym e) ∙ sym f ∙ g in
    rw h (v ∙ same_pointwise w.values t.values)

pub period_any : (q : PeriodAsk) (t : M.Period) → q ≡ Periods.Any → true ≡ period_meets q t
unfolding period_meets
period_any q t e = rw e

-- ---- kept instructions

pub instruction_any : (q : InstructionAsk) (t : M.Kept) → q ≡ Instructions.Any → true ≡ instruction_meets q t
unfolding instruction_meets
instruction_any q t e = rw e

pub instruction_named : (q : InstructionAsk) (t : Kept) (reference : ℕ) → q ≡ Instructions.Named reference
    → eqb t.reference reference ≡ instruction_meets q (instruction_of t)
unfolding instruction_meets is_kept instruction_of
instruction_named q t reference e = rw e

-- ---- since when a hold is on

pub since_party : (k : M.Kept) (hold : ℕ) → (hold ≡ validation_hold → ⊥) → hold ≡ party_hold → k.holding ≡ held_since k hold
unfolding held_since
since_party k hold e f = rw (ne_eqb hold validation_hold e, eq-eqb hold party_hold f)

pub since_neither : (k : M.Kept) (hold : ℕ) → (hold ≡ validation_hold → ⊥) → (hold ≡ party_hold → ⊥) → 0 ≡ held_since k hold
unfolding held_since
since_neither k hold e f = rw (ne_eqb hold validation_hold e, ne_eqb hold party_hold f)
