-- A book changed in one table alone: what it leaves is what that table's lists are now. Other tables lie apart.
use Prim.Native.Nat.{ℕ, ◌≤◌, ◌<◌}
use mathlib.Core.Path.{◌≡◌, refl, ap, sym, ◌∙◌}
use mathlib.Core.Bool.{true}
use mathlib.Core.List.{List}
use lib.ListN.{length}
use Rattle.tables.specs.Count.{count, Same}
use Rattle.tables.proofs.Lone.{lone_same}
use Rattle.tables.proofs.Stored.{length_stored, apart}
use Rattle.meaning.specs.SameBook.{SameBook}
use Rattle.records.specs.Tables.{TableName, Place, Said, table, rank}
use Rattle.records.proofs.TableFacts.{lies, every_table_lem, table_every}
use Rattle.records.proofs.Tables.{apart_tables, by_table}
use Rattle.book.specs.Lone.{lone_book, list}
use Rattle.book.specs.Sound.{placed_in, all_placed}
use Rattle.book.proofs.Lists.{lone_list, book_equal, book_same, with_list, with_that, with_other}
use Rattle.book.proofs.Placed.{placed_same}
use Rattle.edits.specs.Leaves.{Leaves}

-- the length stays, and every other table reads as before
pub record Only (k : TableName) (b b' : List ℕ) : Type 0 where
  pub size : length b' ≡ length b
  pub others : (j : TableName) → (rank k ≡ rank j → ⊥) → (n : ℕ) → n < (table j).places → (table j).at b' n ≡ (table j).at b n

pub only_none : (k : TableName) (b : List ℕ) → Only k b b
only_none k b = record { size = refl; others = λ j d n l. refl }

pub only_then : (k : TableName) (b b' b'' : List ℕ) → Only k b b' → Only k b' b'' → Only k b b''
only_then k b b' b'' o p = record { size = p.size ∙ o.size; others = λ j d n l. p.others j d n l ∙ o.others j d n l }

pub only_stored : (k : TableName) (b : List ℕ) (i : ℕ) (r : Place k) → i < (table k).places → Only k b ((table k).put b i r)
only_stored k b i r h = record {
  size = length_stored (table k) (lies k) b i r;
  others = λ j d n l. apart (table k) (lies k) b i r (table j) (lies j) n (apart_tables k j d) h l;
}

module _ (k : TableName) (b b' : List ℕ) (o : Only k b b') where
  pub list_other : (j : TableName) → (rank k ≡ rank j → ⊥) → (a : ℕ) → list j (lone_book a b') ≡ list j (lone_book a b)
  list_other j d a =
      lone_list j a b'
      ∙ lone_same (table j).csd (table j).rec a ((table j).at b) ((table j).at b') (table j).places (o.others j d)
      ∙ sym (lone_list j a b)

  module _ (c : ℕ) (l : List (Said k)) where
    own_same : Same (list k (lone_book c b')) l → SameBook (lone_book c b') (with_list k l (lone_book c b))
    own_same h =
        book_same (lone_book c b') (with_list k l (lone_book c b))
        (by_table {F = λ j. Same (list j (lone_book c b')) (list j (with_list k l (lone_book c b)))} k
        (λ p. h p ∙ sym (ap (count p) (with_that k l (lone_book c b))))
        (λ j d p. ap (count p) (list_other j d c ∙ sym (with_other k j d l (lone_book c b)))))

    -- What is left, by what holds of the table itself.
    pub only_leaves : (placed_in b k ≡ true → placed_in b' k ≡ true) → Same (list k (lone_book c b')) l
        → ((a : ℕ) → 1 ≤ a → (c ≡ a → ⊥) → list k (lone_book a b') ≡ list k (lone_book a b))
        → Leaves b b' c (with_list k l (lone_book c b))
    unfolding all_placed
    only_leaves placed h still = record {
      size = o.size;
      places = λ e.
          table_every (placed_in b')
          (by_table {F = λ j. placed_in b' j ≡ true} k (placed (every_table_lem (placed_in b) e k))
          (λ j d. placed_same (table j).csd (table j).free ((table j).at b) ((table j).at b') (table j).places (every_table_lem (placed_in b) e j) (o.others j d)));
      own = own_same h;
      others = λ a low d.
          book_equal (lone_book a b') (lone_book a b)
          (by_table {F = λ j. list j (lone_book a b') ≡ list j (lone_book a b)} k (still a low d) (λ j e. list_other j e a));
    }
