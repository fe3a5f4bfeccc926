-- What follows of every table from its own facts (`TableFacts`): it lies within the book and apart from the others. A
-- table is the one named or another.
use Prim.Native.Nat.{◌≤◌}
use mathlib.Core.Path.{◌≡◌, ap, sym, ◌∙◌, subst}
use mathlib.Core.Logic.{inl, inr, ⊎_elim}
use native.Mathlib.Omega.{arith}
use lib.ListN.{length}
use Rattle.tables.specs.Table.{end, Apart}
use Rattle.tables.proofs.Counts.{cases_eq}
use Rattle.tables.proofs.InOrder.{ends_before, one_first}
use Rattle.places.specs.Layout.{book_size, row_from, row_numbers, instruction_from, instruction_numbers}
use Rattle.places.specs.declared.Row.{Row}
use Rattle.places.specs.declared.Kept.{Kept}
use Rattle.places.proofs.TenValues.{ten, thirteen}
use Rattle.records.specs.Tables.{TableName, table, rank, sizes}
use Rattle.records.proofs.TableFacts.{in_order, whole_book, named, named_rank}

pub inside : (k : TableName) → end (table k) ≤ book_size
inside k =
    let o = in_order k in
    omega (arith, o.ends, ends_before sizes (rank k) (length sizes) o.known (omega arith), whole_book)

pub apart_tables : (k j : TableName) → (rank k ≡ rank j → ⊥) → Apart (table k) (table j)
apart_tables k j d =
    let o = in_order k in
    let p = in_order j in
    ⊎_elim (λ e. inl (omega (arith, o.ends, p.starts))) (λ e. inr (omega (arith, o.starts, p.ends)))
    (one_first sizes (rank k) (rank j) o.known p.known d)

pub by_table : {F : TableName → Type 0} (k : TableName) → F k → ((j : TableName) → (rank k ≡ rank j → ⊥) → F j)
    → (j : TableName) → F j
by_table {F} k x y j =
    cases_eq (rank k) (rank j) (λ e. subst F (sym (named_rank k) ∙ ap named e ∙ named_rank j) x) (y j)

-- a row of ten values is what its numbers are, and so is an instruction of thirteen bytes; the structs of the other
-- tables are by definition
pub row_whole : (r : Row) → length r.values ≡ 10 → row_from (row_numbers r) ≡ r
row_whole r e i = record { csd = r.csd; number = r.number; object = r.object; sequence = r.sequence; values = ten r.values e i }

pub instruction_whole : (r : Kept) → length r.remembered ≡ 13 → instruction_from (instruction_numbers r) ≡ r
instruction_whole r e i = record {
  csd = r.csd;
  reference = r.reference;
  object = r.object;
  role = r.role;
  movement = r.movement;
  payment = r.payment;
  transaction = r.transaction;
  currency = r.currency;
  party = r.party;
  account = r.account;
  security = r.security;
  validating = r.validating;
  holding = r.holding;
  remembered = thirteen r.remembered e i;
}
