-- What emptying makes of lent bytes (document 01, 'Records'): of the exact size a book of no records; other sizes get 1
-- and stay. Assumes nothing.
use Rattle.std.specs.Prelude.{ℕ, cond, List, ◌≡◌, Result, Ok, Err, eqb, length}
use Rattle.tables.specs.Bytes.{zeros}
use Rattle.meaning.specs.declared.Refusal.{Refusal}
use Rattle.meaning.specs.declared.Refusal.TheVariants.{UnsoundBook}
use Rattle.places.specs.Layout.{book_size}

-- refusal 1 is the 1 that other sizes get: bytes of another size are no sound book
unfoldable pub empty_answer : List ℕ → Result (Unit {0}) Refusal
empty_answer b = cond (eqb (length b) book_size) (Ok tt) (Err UnsoundBook)

unfoldable pub empty_bytes : List ℕ → List ℕ
empty_bytes b = cond (eqb (length b) book_size) (zeros book_size) b

pub record Emptied (before after : List ℕ) (answer : Result (Unit {0}) Refusal) : Type 0 where
  pub answered : answer ≡ empty_answer before
  pub bytes : after ≡ empty_bytes before
