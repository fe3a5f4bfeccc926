-- What emptying makes: a sound book, in which every depository's lone book is empty.
use Prim.Native.Nat.{ℕ, ◌+◌, ◌≤◌}
use mathlib.Core.Path.{◌≡◌, refl, ap, ◌∙◌}
use mathlib.Core.Bool.{true, ◌||◌, true≢false}
use Rattle.std.specs.Prelude.{Ok, Err, is_ok}
use mathlib.Core.List.{List}
use native.Mathlib.Omega.{arith}
use lib.ListN.{length, replicate}
use borrow.Author.Tests.{eq-eqb, ne_eqb}
use Rattle.tables.specs.Bytes.{zeros}
use Rattle.tables.proofs.Counts.{cases_eq, all_put}
use Rattle.tables.proofs.Zeros.{length_zeros}
use Rattle.tables.proofs.Listed.{place_zeros, list_zeros}
use Rattle.meaning.specs.Records as M
use Rattle.meaning.specs.Fields.{within}
use Rattle.meaning.specs.Sound.{sound_lone}
use Rattle.meaning.specs.declared.Refusal.TheVariants.{UnsoundBook}
use Rattle.places.specs.Layout.{book_size}
use Rattle.records.specs.Tables.{table}
use Rattle.records.proofs.TableFacts.{lies, table_every}
use Rattle.book.specs.Lone.{lone_book}
use Rattle.book.specs.Sound.{placed, placed_in, all_placed, sound}
use Rattle.book.specs.Emptied.{empty_answer, empty_bytes, Emptied}
use Rattle.book.proofs.Lists.{lone_list, book_equal, empty_list}

-- ---- what empty does

pub emptied_yes : (b b' : List ℕ) → length b ≡ book_size → b' ≡ zeros (length b)
    → Emptied b b' (Ok tt)
unfolding empty_answer empty_bytes
emptied_yes b b' l e = record {
  answered = rw (eq-eqb (length b) book_size l);
  bytes = rw (eq-eqb (length b) book_size l) (e ∙ ap zeros l);
}

-- by what `fill` ensures
pub emptied_filled : (b b' : List ℕ) → length b ≡ book_size → b' ≡ replicate (length b) 0 → Emptied b b' (Ok tt)
unfolding zeros
emptied_filled b b' l e = emptied_yes b b' l e

pub emptied_no : (b : List ℕ) → (length b ≡ book_size → ⊥) → Emptied b b (Err UnsoundBook)
unfolding empty_answer empty_bytes
emptied_no b h = record { answered = rw (ne_eqb (length b) book_size h); bytes = rw (ne_eqb (length b) book_size h) }

-- ---- no depository holds a record, and every place is free

pub lone_zeros : (n a : ℕ) → 1 ≤ a → lone_book a (zeros n) ≡ M.empty
lone_zeros n a l = book_equal (lone_book a (zeros n)) M.empty (λ k. lone_list k a (zeros n) ∙ list_zeros (table k) (lies k) n a l ∙ empty_list k)

empty_sound : sound_lone M.empty ≡ true
unfolding sound_lone
empty_sound = refl

placed_zeros : (n : ℕ) → all_placed (zeros n) ≡ true
unfolding all_placed placed
placed_zeros n =
    table_every (placed_in (zeros n))
    (λ k.
    all_put (λ i. (table k).free ((table k).at (zeros n) i) || within 1 8 ((table k).csd ((table k).at (zeros n) i))) (table k).places
    (λ i l. rw (ap (table k).free (place_zeros (table k) (lies k) n i) ∙ (lies k).empty)))

pub zeros_sound : sound (zeros book_size) ≡ true
unfolding sound
zeros_sound =
    rw (
      eq-eqb (length (zeros book_size)) book_size (length_zeros book_size),
      placed_zeros book_size,
      all_put (λ a. sound_lone (lone_book (a + 1) (zeros book_size))) 8 (λ a l. rw (lone_zeros book_size (a + 1) (omega arith)) empty_sound),
    )

-- A book that emptying took is sound, and each depository's lone book is the meaning's empty book.
pub emptied : (b b' : List ℕ) → Emptied b b' (Ok tt) → b' ≡ zeros book_size
unfolding empty_answer empty_bytes
emptied b b' e =
    cases_eq (length b) book_size
    (λ l. rw (eq-eqb (length b) book_size l) at e.bytes)
    (λ l. absurd (true≢false (ap is_ok (rw (ne_eqb (length b) book_size l) at e.answered))))

pub emptied_sound : (b b' : List ℕ) → Emptied b b' (Ok tt) → sound b' ≡ true
emptied_sound b b' e = ap sound (emptied b b' e) ∙ zeros_sound

pub emptied_lone : (b b' : List ℕ) → Emptied b b' (Ok tt) → (a : ℕ) → 1 ≤ a → lone_book a b' ≡ M.empty
emptied_lone b b' e a l = ap (lone_book a) (emptied b b' e) ∙ lone_zeros book_size a l
