-- The lists of a lone book by their tables: a book is its lists, and a book with another list has that one and the
-- others as they were.
-- Written by tools/values.py: change that, then run tools/generate.
use Prim.Native.Nat.{ℕ, ◌≤◌}
use mathlib.Core.Path.{◌≡◌, refl}
use mathlib.Core.Bool.{true}
use mathlib.Core.List.{List, []}
use lib.ListN.{length}
use borrow.Author.Tests.{leb-true}
use Rattle.tables.specs.Count.{Same}
use Rattle.tables.specs.Table.{list_of}
use Rattle.tables.proofs.Counts.{ands}
use Rattle.meaning.specs.Records as M
use Rattle.meaning.specs.Sound.{quotas}
use Rattle.meaning.specs.Edits.{with_types, with_rules, with_rows, with_periods}
use Rattle.meaning.specs.SameBook.{SameBook}
use Rattle.records.specs.Tables.{TableName, of_types, of_rules, of_rows, of_periods, Said, table, rank}
use Rattle.book.specs.Lone.{types_of, rules_of, rows_of, periods_of, lone_book, list}

pub lone_list : (k : TableName) (a : ℕ) (b : List ℕ) → list k (lone_book a b) ≡ list_of (table k) a b
unfolding types_of rules_of rows_of periods_of
lone_list of_types a b = refl
lone_list of_rules a b = refl
lone_list of_rows a b = refl
lone_list of_periods a b = refl

-- ---- a book is its lists

pub book_equal : (m n : M.Book) → ((k : TableName) → list k m ≡ list k n) → m ≡ n
book_equal m n h i = record { types = h of_types i; rules = h of_rules i; rows = h of_rows i; periods = h of_periods i }

pub book_same : (m n : M.Book) → ((k : TableName) → Same (list k m) (list k n)) → SameBook m n
book_same m n h = record { types = h of_types; rules = h of_rules; rows = h of_rows; periods = h of_periods }

pub list_same : (m n : M.Book) → SameBook m n → (k : TableName) → Same (list k m) (list k n)
list_same m n s of_types = s.types
list_same m n s of_rules = s.rules
list_same m n s of_rows = s.rows
list_same m n s of_periods = s.periods

pub empty_list : (k : TableName) → [] ≡ list k M.empty
empty_list of_types = refl
empty_list of_rules = refl
empty_list of_rows = refl
empty_list of_periods = refl

-- a list of a book within its quotas is within the table's
pub quota_kept : (m : M.Book) → quotas m ≡ true → (k : TableName) → length (list k m) ≤ (table k).quota
unfolding quotas
quota_kept m e of_types = leb-true (length m.types) M.type_quota (search ands)
quota_kept m e of_rules = leb-true (length m.rules) M.rule_quota (search ands)
quota_kept m e of_rows = leb-true (length m.rows) M.row_quota (search ands)
quota_kept m e of_periods = leb-true (length m.periods) M.period_quota (search ands)

-- ---- a book with another list

abbrev pub with_list : (k : TableName) → List (Said k) → M.Book → M.Book
with_list of_types = with_types
with_list of_rules = with_rules
with_list of_rows = with_rows
with_list of_periods = with_periods

pub with_that : (k : TableName) (l : List (Said k)) (m : M.Book) → list k (with_list k l m) ≡ l
with_that of_types l m = refl
with_that of_rules l m = refl
with_that of_rows l m = refl
with_that of_periods l m = refl

pub with_other : (k j : TableName) → (rank k ≡ rank j → ⊥) → (l : List (Said k)) (m : M.Book)
    → list j (with_list k l m) ≡ list j m
with_other of_types of_types d l m = absurd (d refl)
with_other of_types of_rules d l m = refl
with_other of_types of_rows d l m = refl
with_other of_types of_periods d l m = refl
with_other of_rules of_types d l m = refl
with_other of_rules of_rules d l m = absurd (d refl)
with_other of_rules of_rows d l m = refl
with_other of_rules of_periods d l m = refl
with_other of_rows of_types d l m = refl
with_other of_rows of_rules d l m = refl
with_other of_rows of_rows d l m = absurd (d refl)
with_other of_rows of_periods d l m = refl
with_other of_periods of_types d l m = refl
with_other of_periods of_rules d l m = refl
with_other of_periods of_rows d l m = refl
with_other of_periods of_periods d l m = absurd (d refl)
