-- What the nine edits leave: one theorem, over the command.
use Prim.Native.Nat.{ℕ, ◌≤◌, ◌<◌}
use mathlib.Core.Path.{◌≡◌, refl, ap}
use mathlib.Core.Bool.{Bool, true, false≢true}
use mathlib.Core.List.{List, ◌∷◌}
use native.Mathlib.Omega.{arith}
use lib.ListN.{length}
use borrow.Author.Tests.{lt-ltb, leb-false, not-false}
use Rattle.tables.specs.Count.{count, has, every, without, change}
use Rattle.tables.specs.Table.{place_of, store, vacant, Fits}
use Rattle.tables.proofs.Lone.{every_at}
use Rattle.tables.proofs.Lists.{has_true}
use Rattle.tables.proofs.Listed.{found}
use Rattle.std.specs.Prelude.{None}
use Rattle.meaning.specs.Records as M
use Rattle.meaning.specs.Keys.{is_type, is_rule, is_row, is_period}
use Rattle.meaning.specs.Refusals.{conditions, refusal}
use Rattle.meaning.specs.declared.Refusal.TheVariants.{NotFound, QuotaFull}
use Rattle.meaning.specs.Edits.{edited, fits, type_until, period_until}
use Rattle.meaning.specs.Lone.{is_question}
use Rattle.meaning.specs.declared.Wishes.{Wishes}
use Rattle.meaning.specs.Forms.{holds, day, sequence_form}
use Rattle.meaning.specs.Sound.{type_fits, rule_fits, row_fits, period_fits}
use Rattle.meaning.proofs.First.{command_not_refused}
use Rattle.meaning.proofs.Good.{Good, good_of_sound, period_once}
use Rattle.places.specs.Layout.{type_places, rule_places, row_places, period_places, type_at, rule_at, row_at, period_at}
use Rattle.records.specs.Said.{type_of, rule_of, row_of, period_of}
use Rattle.records.specs.Asks.{type_meets, rule_meets, row_meets, period_meets}
use Rattle.records.specs.Tables.{TableName, of_types, of_rules, of_rows, of_periods, Place, Said, table}
use Rattle.records.proofs.Holds.{type_hold, rule_hold, row_hold, period_hold}
use Rattle.records.proofs.Tables.{row_whole}
use Rattle.book.specs.Places.{type_place, rule_place, row_place, period_place}
use Rattle.book.specs.Lone.{types_of, rules_of, rows_of, periods_of, lone_book, list}
use Rattle.book.proofs.Facts.{GoodBook}
use Rattle.book.proofs.Found.{free_in}
use Rattle.book.proofs.Lists.{lone_list, book_same, with_list}
use Rattle.edits.specs.Leaves.{Leaves}
use Rattle.edits.specs.Moves.{reorder_in}
use Rattle.edits.specs.Edit.{type_in, rule_in, row_in, period_in, type_ended, period_ended, store_type, store_rule, store_row, store_period, ended_type, ended_period, deleted_rule, deleted_row, reordered_rule, edit_in}
use Rattle.edits.proofs.Widths.{row_ten, type_ended_fits, period_ended_fits, rule_with_fits, row_with_fits}
use Rattle.edits.proofs.Edits.{added, deleted, changed}
use Rattle.edits.proofs.Carried.{ten_values_lem, reordered}

module _ (b : List ℕ) (c : ℕ) (g : GoodBook b) (low : 1 ≤ c) (high : c ≤ 8) where
  own : Good (lone_book c b)
  own = good_of_sound (lone_book c b) (g.lone c low high)

  -- ---- in any table: a record more at a free place, and the one record as asked taken out or changed

  more_left : (k : TableName) (p : Said k → Bool) → ((x : Said k) → p x ≡ true) → (r : Place k) → Fits (table k) r
      → (table k).csd r ≡ c → length (list k (lone_book c b)) < (table k).quota
      → Leaves b (store (table k) b (place_of (table k) b 0 p) r) c (with_list k ((table k).rec r ∷ list k (lone_book c b)) (lone_book c b))
  more_left k p any r fits o l =
      let e = free_in k b g p any c low high l in
      rw (lt-ltb (place_of (table k) b 0 p) (table k).places e.0)
      (added k b (place_of (table k) b 0 p) g.size e.0 r fits c o e.1 low high)

  module _ (k : TableName) (q : Said k → Bool) (h : has q (list k (lone_book c b)) ≡ true) (once : count q (list k (lone_book c b)) ≤ 1) where
    abbrev where_it_stands : ℕ
    where_it_stands = place_of (table k) b c q

    stands : (where_it_stands < (table k).places) × ((table k).csd ((table k).at b where_it_stands) ≡ c) × (q ((table k).rec ((table k).at b where_it_stands)) ≡ true)
    stands =
        found (table k) b c q
        (omega (arith, has_true q (list k (lone_book c b)) h, ap (count q) (lone_list k c b)))

    fewer_left : Leaves b (store (table k) b where_it_stands (vacant (table k))) c (with_list k (without q (list k (lone_book c b))) (lone_book c b))
    fewer_left =
        rw (lt-ltb where_it_stands (table k).places stands.0)
        (deleted k b where_it_stands g.size stands.0 c low q stands.1 stands.2 once)

    other_left : (r : Place k) (f : Said k → Said k) → Fits (table k) r → (table k).csd r ≡ c
        → (table k).rec r ≡ f ((table k).rec ((table k).at b where_it_stands))
        → Leaves b (store (table k) b where_it_stands r) c (with_list k (change q f (list k (lone_book c b))) (lone_book c b))
    other_left r f fits o e =
        rw (lt-ltb where_it_stands (table k).places stands.0)
        (changed k b where_it_stands g.size stands.0 c low q stands.1 stands.2 once r f fits high o e)

  -- ---- T, R, M, A

  leaves_type : (d : ℕ) (t : M.TypeRecord) → type_fits t ≡ true → length (types_of c b) < M.type_quota
      → Leaves b (edit_in b c (M.add_type d t)) c (edited (lone_book c b) (M.add_type d t))
  unfolding edit_in edited store_type type_of type_place type_meets
  leaves_type d t f l =
      more_left of_types (λ x. true) (λ x. refl) (type_in c t) (record { holds = type_hold (type_in c t) high f; whole = refl }) refl l

  leaves_rule : (d : ℕ) (r : M.Rule) → rule_fits r ≡ true → length (rules_of c b) < M.rule_quota
      → Leaves b (edit_in b c (M.add_rule d r)) c (edited (lone_book c b) (M.add_rule d r))
  unfolding edit_in edited store_rule rule_of rule_place rule_meets
  leaves_rule d r f l =
      more_left of_rules (λ x. true) (λ x. refl) (rule_in c r) (record { holds = rule_hold (rule_in c r) high f; whole = refl }) refl l

  leaves_row : (w : M.Row) → row_fits w ≡ true → length (rows_of c b) < M.row_quota
      → Leaves b (edit_in b c (M.add_row w)) c (edited (lone_book c b) (M.add_row w))
  unfolding edit_in edited store_row row_of row_place row_meets
  leaves_row w f l =
      more_left of_rows (λ x. true) (λ x. refl) (row_in c w)
      (record { holds = row_hold (row_in c w) high (row_ten w f) f; whole = row_whole (row_in c w) (row_ten w f) }) refl l

  leaves_period : (d : ℕ) (p : M.Period) → period_fits p ≡ true → length (periods_of c b) < M.period_quota
      → Leaves b (edit_in b c (M.add_period d p)) c (edited (lone_book c b) (M.add_period d p))
  unfolding edit_in edited store_period period_of period_place period_meets
  leaves_period d p f l =
      more_left of_periods (λ x. true) (λ x. refl) (period_in c p) (record { holds = period_hold (period_in c p) high f; whole = refl }) refl l

  -- ---- D, N

  leaves_rule_out : (n o s : ℕ) → has (is_rule n o s) (rules_of c b) ≡ true
      → Leaves b (edit_in b c (M.delete_rule n o s)) c (edited (lone_book c b) (M.delete_rule n o s))
  unfolding edit_in edited deleted_rule store_rule rule_place rule_meets
  leaves_rule_out n o s h = fewer_left of_rules (is_rule n o s) h (own.rule_once n o s)

  leaves_row_out : (w : M.Row) → has (is_row w) (rows_of c b) ≡ true
      → Leaves b (edit_in b c (M.delete_row w)) c (edited (lone_book c b) (M.delete_row w))
  unfolding edit_in edited deleted_row store_row row_place row_meets row_of
  leaves_row_out w h = fewer_left of_rows (is_row w) h (own.row_once w)

  -- ---- E, Z

  type_fits_lem : (k : ℕ) → k < type_places → (type_at b k).csd ≡ c → type_fits (type_of (type_at b k)) ≡ true
  unfolding types_of
  type_fits_lem = every_at (λ r. r.csd) type_of c type_fits (type_at b) type_places own.types_fit

  rule_fits_lem : (k : ℕ) → k < rule_places → (rule_at b k).csd ≡ c → rule_fits (rule_of (rule_at b k)) ≡ true
  unfolding rules_of
  rule_fits_lem = every_at (λ r. r.csd) rule_of c rule_fits (rule_at b) rule_places own.rules_fit

  row_fits_lem : (k : ℕ) → k < row_places → (row_at b k).csd ≡ c → row_fits (row_of (row_at b k)) ≡ true
  unfolding rows_of
  row_fits_lem = every_at (λ r. r.csd) row_of c row_fits (row_at b) row_places own.rows_fit

  period_fits_lem : (k : ℕ) → k < period_places → (period_at b k).csd ≡ c → period_fits (period_of (period_at b k)) ≡ true
  unfolding periods_of
  period_fits_lem = every_at (λ r. r.csd) period_of c period_fits (period_at b) period_places own.periods_fit

  leaves_type_end : (d n o last : ℕ) → holds day last ≡ true → has (is_type n o) (types_of c b) ≡ true
      → Leaves b (edit_in b c (M.end_type d n o last)) c (edited (lone_book c b) (M.end_type d n o last))
  unfolding edit_in edited ended_type store_type type_place type_meets type_of
  leaves_type_end d n o last e h =
      let once = own.type_once n o in
      let i = place_of (table of_types) b c (is_type n o) in
      let f = stands of_types (is_type n o) h once in
      other_left of_types (is_type n o) h once (type_ended last (type_at b i)) (type_until last)
      (type_ended_fits last (type_at b i) (omega (arith, f.1)) (type_fits_lem i f.0 f.1) e) f.1 refl

  leaves_period_end : (d κ n o first last : ℕ) → holds day last ≡ true
      → has (is_period κ n o first) (periods_of c b) ≡ true
      → Leaves b (edit_in b c (M.end_period d κ n o first last)) c (edited (lone_book c b) (M.end_period d κ n o first last))
  unfolding edit_in edited ended_period store_period period_place period_meets period_of
  leaves_period_end d κ n o first last e h =
      let once = period_once (lone_book c b) own κ n o first in
      let i = place_of (table of_periods) b c (is_period κ n o first) in
      let f = stands of_periods (is_period κ n o first) h once in
      other_left of_periods (is_period κ n o first) h once (period_ended last (period_at b i)) (period_until last)
      (period_ended_fits last (period_at b i) (omega (arith, f.1)) (period_fits_lem i f.0 f.1) e) f.1 refl

  -- ---- O

  leaves_reorder : (n o s new : ℕ) → holds sequence_form new ≡ true → has (is_rule n o s) (rules_of c b) ≡ true
      → Leaves b (edit_in b c (M.reorder n o s new)) c (edited (lone_book c b) (M.reorder n o s new))
  unfolding edit_in reordered_rule store_rule rule_place rule_meets reorder_in
  leaves_reorder n o s new e h =
      let once = own.rule_once n o s in
      let i = place_of (table of_rules) b c (is_rule n o s) in
      let f = stands of_rules (is_rule n o s) h once in
      rw (lt-ltb i rule_places f.0)
      (reordered b i c n o s new g.size low high f.0 f.1 f.2 once
      (rule_with_fits new (rule_at b i) (omega (arith, f.1)) (rule_fits_lem i f.0 f.1) e)
      (λ k l z. row_with_fits new (row_at b k) (omega (arith, z)) (ten_values_lem c n o s new b k) (row_fits_lem k l z) e))

  leaves_nothing : (q : M.Question) (x : Wishes) → Leaves b (edit_in b c (M.ask q x)) c (edited (lone_book c b) (M.ask q x))
  unfolding edit_in edited
  leaves_nothing q x =
      record {
        size = refl;
        places = λ e. e;
        own = book_same (lone_book c b) (lone_book c b) (λ k p. refl);
        others = λ a l d. refl;
      }

  -- ---- every command

  -- An edit that is not refused leaves, of its depository, the meaning's edited book, and of every other depository the
  -- equal book.
  pub edit_leaves : (k : M.Command) → fits k ≡ true → refusal (lone_book c b) k ≡ None
      → Leaves b (edit_in b c k) c (edited (lone_book c b) k)
  unfolding conditions fits every
  edit_leaves (M.add_type d t) f e =
      leaves_type d t f (leb-false M.type_quota (length (types_of c b)) (command_not_refused (lone_book c b) (M.add_type d t) e QuotaFull))
  edit_leaves (M.end_type d n o last) f e =
      leaves_type_end d n o last f (not-false (has (is_type n o) (types_of c b)) (command_not_refused (lone_book c b) (M.end_type d n o last) e NotFound))
  edit_leaves (M.add_rule d r) f e =
      leaves_rule d r f (leb-false M.rule_quota (length (rules_of c b)) (command_not_refused (lone_book c b) (M.add_rule d r) e QuotaFull))
  edit_leaves (M.reorder n o s new) f e =
      leaves_reorder n o s new f (not-false (has (is_rule n o s) (rules_of c b)) (command_not_refused (lone_book c b) (M.reorder n o s new) e NotFound))
  edit_leaves (M.delete_rule n o s) f e =
      leaves_rule_out n o s (not-false (has (is_rule n o s) (rules_of c b)) (command_not_refused (lone_book c b) (M.delete_rule n o s) e NotFound))
  edit_leaves (M.add_row w) f e =
      leaves_row w f (leb-false M.row_quota (length (rows_of c b)) (command_not_refused (lone_book c b) (M.add_row w) e QuotaFull))
  edit_leaves (M.delete_row w) f e =
      leaves_row_out w (not-false (has (is_row w) (rows_of c b)) (command_not_refused (lone_book c b) (M.delete_row w) e NotFound))
  edit_leaves (M.add_period d p) f e =
      leaves_period d p f (leb-false M.period_quota (length (periods_of c b)) (command_not_refused (lone_book c b) (M.add_period d p) e QuotaFull))
  edit_leaves (M.end_period d κ n o first last) f e =
      leaves_period_end d κ n o first last f
      (not-false (has (is_period κ n o first) (periods_of c b)) (command_not_refused (lone_book c b) (M.end_period d κ n o first last) e NotFound))
  edit_leaves (M.ask q x) f e = leaves_nothing q x

-- A question's edit leaves every byte.
pub question_left : (b : List ℕ) (c : ℕ) (k : M.Command) → is_question k ≡ true → edit_in b c k ≡ b
unfolding edit_in
question_left b c (M.add_type e t) q = absurd (false≢true q)
question_left b c (M.end_type e type object last) q = absurd (false≢true q)
question_left b c (M.add_rule e r) q = absurd (false≢true q)
question_left b c (M.reorder type object sequence new) q = absurd (false≢true q)
question_left b c (M.delete_rule type object sequence) q = absurd (false≢true q)
question_left b c (M.add_row w) q = absurd (false≢true q)
question_left b c (M.delete_row w) q = absurd (false≢true q)
question_left b c (M.add_period e p) q = absurd (false≢true q)
question_left b c (M.end_period e kind number code first last) q = absurd (false≢true q)
question_left b c (M.ask r x) q = refl
