-- What a reorder leaves of the lone books: the rule and all its rows have the new sequence.
use Prim.Native.Nat.{ℕ, zero, suc, ◌+◌, ◌≤◌, ◌<◌}
use mathlib.Core.Path.{◌≡◌, refl, ap, sym, ◌∙◌, subst}
use mathlib.Core.Bool.{true, false, cond}
use mathlib.Core.List.{List, [], ◌∷◌}
use native.Mathlib.Numerals.{add-one}
use native.Mathlib.Omega.{arith}
use lib.Dec.{eqb}
use lib.ListN.{length}
use borrow.Author.Tests.{eq-eqb, eqb-true, ne_eqb}
use Rattle.tables.specs.Count.{count, alter, change}
use Rattle.tables.specs.Table.{Fits}
use Rattle.tables.proofs.Counts.{cases, cases_eq}
use Rattle.tables.proofs.Lone.{lone_altered}
use Rattle.tables.proofs.Lists.{same_equal}
use Rattle.tables.proofs.Stored.{back, other}
use Rattle.meaning.specs.Records as M
use Rattle.meaning.specs.Keys.{is_rule, of_rule}
use Rattle.meaning.specs.Edits as E
use Rattle.meaning.specs.SameBook.{SameBook}
use Rattle.places.specs.Layout.{book_size, rule_places, row_places, rule_at, put_rule, row_at}
use Rattle.records.specs.Said.{rule_of, row_of}
use Rattle.records.specs.Free.{row_zero}
use Rattle.records.specs.Tables.{of_rules, of_rows, table}
use Rattle.records.proofs.TableFacts.{lies}
use Rattle.records.proofs.Tables.{inside}
use Rattle.book.specs.Lone.{rules_of, rows_of, lone_book}
use Rattle.book.specs.Sound.{placed_in}
use Rattle.book.proofs.SameBooks.{same_then, with_same}
use Rattle.book.proofs.Placed.{of_one}
use Rattle.edits.specs.Leaves.{Leaves}
use Rattle.edits.specs.Moves.{rule_with, row_with, carried, carry_row, carry_rows, reorder_in}
use Rattle.edits.proofs.Alone.{Only, only_none, only_then, only_stored, list_other, only_leaves}
use Rattle.edits.proofs.Edits.{stored_placed, changed}

alter_none : {R : Type 0} (l : List R) → alter (λ x. x) l ≡ l
unfolding alter
alter_none [] = refl
alter_none (x ∷ l) = ap (λ m. x ∷ m) (alter_none l)

module _ (c n o s new : ℕ) (b : List ℕ) where
  -- The rows are carried in the rows' table alone.
  pub carried_only : (m : ℕ) → m ≤ row_places → Only of_rows b (carry_rows c n o s new b m)
  unfolding carry_rows
  carried_only zero l = only_none of_rows b
  carried_only (suc m) l =
      let r = carried_only m (omega arith) in
      cases (carried c n o s new (row_at b m))
      (λ e. rw e (only_then of_rows b (carry_rows c n o s new b m) _ r (only_stored of_rows (carry_rows c n o s new b m) m (row_with new (row_at b m)) (omega arith))))
      (λ e. rw e r)

  pub ten_values_lem : (k : ℕ) → length (row_at b k).values ≡ 10
  unfolding row_at
  ten_values_lem k = refl

  -- a place that is not passed yet reads as before
  pub ahead : (m k : ℕ) → m ≤ k → row_at (carry_rows c n o s new b m) k ≡ row_at b k
  unfolding carry_rows
  ahead zero k l = refl
  ahead (suc m) k l =
      cases (carried c n o s new (row_at b m))
      (λ e. rw e (other (table of_rows) (lies of_rows) (carry_rows c n o s new b m) m (row_with new (row_at b m)) k (λ z. omega arith) ∙ ahead m k (omega arith)))
      (λ e. rw e (ahead m k (omega arith)))

  -- one place more, as the loop takes it
  pub carry_more : (m : ℕ) → carry_rows c n o s new b (m + 1) ≡ carry_row c n o s new (carry_rows c n o s new b m) m
  unfolding carry_rows carry_row
  carry_more m = rw (add-one, ahead m m (omega arith))

  pub carry_none : b ≡ carry_rows c n o s new b 0
  unfolding carry_rows
  carry_none = refl

  pub carry_next : (b' b'' : List ℕ) (m : ℕ) → b' ≡ carry_rows c n o s new b m → b'' ≡ carry_row c n o s new b' m
      → b'' ≡ carry_rows c n o s new b (m + 1)
  carry_next b' b'' m e f = f ∙ ap (λ z. carry_row c n o s new z m) e ∙ sym (carry_more m)

  module _ (size : length b ≡ book_size) (fits : (k : ℕ) → k < row_places → (row_at b k).csd ≡ c → Fits (table of_rows) (row_with new (row_at b k))) where
    whose : (k : ℕ) → carried c n o s new (row_at b k) ≡ true → (row_at b k).csd ≡ c
    unfolding carried
    whose k e = cases (eqb (row_at b k).csd c) (λ z. eqb-true (row_at b k).csd c z) (λ z. absurd (no (rw z at e)))
      where
        no : false ≡ true → ⊥
        no z = let w : ◌≡◌ {A = ℕ} 1 0 = ap (λ t. cond t 0 1) z in omega arith

    passed : (m k : ℕ) → m ≤ row_places → k < m
        → row_at (carry_rows c n o s new b m) k ≡ cond (carried c n o s new (row_at b k)) (row_with new (row_at b k)) (row_at b k)
    unfolding carry_rows
    passed zero k u l = absurd (omega arith)
    passed (suc m) k u l =
        cases_eq k m
        (λ z.
        rw z
        (cases (carried c n o s new (row_at b m))
        (λ e.
        rw e
        (back (table of_rows) (lies of_rows) (carry_rows c n o s new b m) m (row_with new (row_at b m)) (fits m (omega arith) (whose m e)) (omega arith) (omega (arith, inside of_rows, (carried_only m (omega arith)).size))))
        (λ e. rw e (ahead m m (omega arith)))))
        (λ z.
        cases (carried c n o s new (row_at b m))
        (λ e. rw e (other (table of_rows) (lies of_rows) (carry_rows c n o s new b m) m (row_with new (row_at b m)) k z ∙ passed m k (omega arith) (omega arith)))
        (λ e. rw e (passed m k (omega arith) (omega arith))))

    pub carried_placed : 1 ≤ c → c ≤ 8 → (m : ℕ) → m ≤ row_places → placed_in b of_rows ≡ true
        → placed_in (carry_rows c n o s new b m) of_rows ≡ true
    unfolding carry_rows
    carried_placed low high zero l e = e
    carried_placed low high (suc m) l e =
        let r = carried_placed low high m (omega arith) e in
        cases (carried c n o s new (row_at b m))
        (λ t.
        let z = whose m t in
        rw t
        (stored_placed of_rows (carry_rows c n o s new b m) m ((carried_only m (omega arith)).size ∙ size) (omega arith) (row_with new (row_at b m)) (fits m (omega arith) z)
        (of_one (row_zero (row_with new (row_at b m))) (row_at b m).csd (rw z low) (rw z high)) r))
        (λ t. rw t r)

    same_csd : (k : ℕ) → k < row_places → (row_at (carry_rows c n o s new b row_places) k).csd ≡ (row_at b k).csd
    same_csd k l =
        ap (λ r. r.csd) (passed row_places k (omega arith) l)
        ∙ cases (carried c n o s new (row_at b k)) (λ e. rw e) (λ e. rw e)

    pub rows_carried : rows_of c (carry_rows c n o s new b row_places)
        ≡ change (of_rule n o s) (E.row_moved new) (rows_of c b)
    unfolding rows_of row_of carried change
    rows_carried =
        lone_altered (λ r. r.csd) row_of c (λ x. cond (of_rule n o s x) (E.row_moved new x) x) (row_at b) (row_at (carry_rows c n o s new b row_places)) row_places same_csd
        (λ k l e.
        ap row_of (passed row_places k (omega arith) l)
        ∙ rw (eq-eqb (row_at b k).csd c e) (cases (of_rule n o s (row_of (row_at b k))) (λ z. rw z) (λ z. rw z)))

    pub rows_kept : (a : ℕ) → (c ≡ a → ⊥) → rows_of a (carry_rows c n o s new b row_places) ≡ rows_of a b
    unfolding rows_of carried
    rows_kept a d =
        lone_altered (λ r. r.csd) row_of a (λ x. x) (row_at b) (row_at (carry_rows c n o s new b row_places)) row_places same_csd
        (λ k l e.
        ap row_of (passed row_places k (omega arith) l)
        ∙ rw (ne_eqb (row_at b k).csd c (λ z. d (sym z ∙ e))))
        ∙ alter_none _

-- one edit after the other
leaves_then : (b b' b'' : List ℕ) (c : ℕ) (m m' n : M.Book) → Leaves b b' c m → Leaves b' b'' c m' → SameBook m' n
    → Leaves b b'' c n
leaves_then b b' b'' c m m' n l l' s = record {
  size = l'.size ∙ l.size;
  places = λ e. l'.places (l.places e);
  own = same_then (lone_book c b'') m' n l'.own s;
  others = λ a low d. l'.others a low d ∙ l.others a low d;
}

-- O: the rule, and all its rows
module _ (b : List ℕ) (i c n o s new : ℕ) (size : length b ≡ book_size) (low : 1 ≤ c) (high : c ≤ 8) (place : i < rule_places) (own : (rule_at b i).csd ≡ c) (hit : is_rule n o s (rule_of (rule_at b i)) ≡ true) (once : count (is_rule n o s) (rules_of c b) ≤ 1) (rule_fits_lem : Fits (table of_rules) (rule_with new (rule_at b i))) (row_fits_lem : (k : ℕ) → k < row_places → (row_at b k).csd ≡ c → Fits (table of_rows) (row_with new (row_at b k))) where
  abbrev moved : List ℕ
  moved = put_rule b i (rule_with new (rule_at b i))

  only_rule : Only of_rules b moved
  only_rule = only_stored of_rules b i (rule_with new (rule_at b i)) place

  moved_fits : (k : ℕ) → k < row_places → (row_at moved k).csd ≡ c → Fits (table of_rows) (row_with new (row_at moved k))
  moved_fits k l e =
      let same_row = only_rule.others of_rows (λ z. omega arith) k l in
      subst (λ r. Fits (table of_rows) (row_with new r)) (sym same_row) (row_fits_lem k l (sym (ap (λ r. r.csd) same_row) ∙ e))

  -- the rule has its new sequence
  rule_moved_lem : Leaves b moved c (E.with_rules (change (is_rule n o s) (E.rule_moved new) (rules_of c b)) (lone_book c b))
  unfolding rule_of
  rule_moved_lem = changed of_rules b i size place c low (is_rule n o s) own hit once (rule_with new (rule_at b i)) (E.rule_moved new) rule_fits_lem high own refl

  -- and then its rows
  rows_moved : Leaves moved (reorder_in c n o s new b i) c (E.with_rows (change (of_rule n o s) (E.row_moved new) (rows_of c moved)) (lone_book c moved))
  unfolding reorder_in
  rows_moved =
      let z = only_rule.size ∙ size in
      only_leaves of_rows moved (carry_rows c n o s new moved row_places) (carried_only c n o s new moved row_places (omega arith)) c
      (change (of_rule n o s) (E.row_moved new) (rows_of c moved))
      (carried_placed c n o s new moved z moved_fits low high row_places (omega arith))
      (same_equal (rows_carried c n o s new moved z moved_fits))
      (λ a l d. rows_kept c n o s new moved z moved_fits a d)

  pub reordered : Leaves b (reorder_in c n o s new b i) c (E.edited (lone_book c b) (M.reorder n o s new))
  unfolding E.edited
  reordered =
      leaves_then b moved (reorder_in c n o s new b i) c _ _ _ rule_moved_lem rows_moved
      (with_same of_rows _ _ _ _
      (same_equal (ap (change (of_rule n o s) (E.row_moved new)) (list_other of_rules b moved only_rule of_rows (λ z. omega arith) c)))
      rule_moved_lem.own)
