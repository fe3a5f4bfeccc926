-- Books of the same records: equal ones, one by another, and each with another list.
use mathlib.Core.Path.{◌≡◌, ap, sym, ◌∙◌}
use mathlib.Core.List.{List}
use Rattle.tables.specs.Count.{count, Same}
use Rattle.meaning.specs.Records as M
use Rattle.meaning.specs.SameBook.{SameBook}
use Rattle.records.specs.Tables.{TableName, Said}
use Rattle.records.proofs.Tables.{by_table}
use Rattle.book.specs.Lone.{list}
use Rattle.book.proofs.Lists.{book_same, list_same, with_list, with_that, with_other}

pub same_books : {m n : M.Book} → m ≡ n → SameBook m n
same_books {m} {n} e = book_same m n (λ k p. ap (λ x. count p (list k x)) e)

pub same_then : (l m n : M.Book) → SameBook l m → SameBook m n → SameBook l n
same_then l m n s t = book_same l n (λ k p. list_same l m s k p ∙ list_same m n t k p)

pub with_same : (k : TableName) (l l' : List (Said k)) (m n : M.Book) → Same l l' → SameBook m n
    → SameBook (with_list k l m) (with_list k l' n)
with_same k l l' m n h s =
    book_same (with_list k l m) (with_list k l' n)
    (by_table {F = λ j. Same (list j (with_list k l m)) (list j (with_list k l' n))} k
    (λ p. ap (count p) (with_that k l m) ∙ h p ∙ sym (ap (count p) (with_that k l' n)))
    (λ j d p. ap (count p) (with_other k j d l m) ∙ list_same m n s j p ∙ sym (ap (count p) (with_other k j d l' n))))
