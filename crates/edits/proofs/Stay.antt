-- A sound book stays sound under every edit that is not refused.
use Prim.Native.Nat.{ℕ, ◌+◌, ◌≤◌}
use mathlib.Core.Path.{◌≡◌, ap, ◌∙◌}
use mathlib.Core.Bool.{true}
use mathlib.Core.List.{List}
use native.Mathlib.Omega.{arith}
use lib.ListN.{length}
use borrow.Author.Tests.{eqb-true}
use Rattle.tables.proofs.Counts.{cases_eq, ands, all_put}
use Rattle.meaning.specs.Records as M
use Rattle.meaning.specs.Edits.{edited}
use Rattle.meaning.specs.Sound.{sound_lone}
use Rattle.meaning.proofs.Good.{good_of_sound, sound_of_good, sound_same}
use Rattle.meaning.proofs.Kept.{good_edited}
use Rattle.places.specs.Layout.{book_size}
use Rattle.book.specs.Lone.{lone_book}
use Rattle.book.specs.Sound.{sound}
use Rattle.book.proofs.Facts.{facts_of_sound}
use Rattle.edits.specs.Leaves.{Leaves, Accepted, Edited}
use Rattle.edits.specs.Edit.{edit_in}
use Rattle.edits.proofs.Leave.{edit_leaves}

pub sound_lone_lem : (b : List ℕ) → sound b ≡ true → (a : ℕ) → 1 ≤ a → a ≤ 8 → sound_lone (lone_book a b) ≡ true
sound_lone_lem b e = (facts_of_sound b e).lone

-- ---- after an edit

module _ (b b' : List ℕ) (c : ℕ) (m : M.Book) (e : sound b ≡ true) (l : Leaves b b' c m) where
  -- the depository's lone book is sound, and so is every other's, which is equal
  pub leaves_sound : sound_lone m ≡ true → sound b' ≡ true
  unfolding sound
  leaves_sound s =
      rw (
        l.size ∙ eqb-true (length b) book_size (search ands),
        l.places (search ands),
        all_put (λ a. sound_lone (lone_book (a + 1) b')) 8
            (λ a h.
            cases_eq c (a + 1)
            (λ z. rw (← z) (sound_same (lone_book c b') m l.own ∙ s))
            (λ z. ap sound_lone (l.others (a + 1) (omega arith) z) ∙ sound_lone_lem b e (a + 1) (omega arith) (omega arith))),
      )

pub edit_left : (b : List ℕ) (c : ℕ) (k : M.Command) → Accepted b c k → Edited b c k (edit_in b c k)
edit_left b c k a =
    let m = lone_book c b in
    let left = edit_leaves b c (facts_of_sound b a.book) a.low a.high k a.fits a.unrefused in
    let good = good_of_sound m (sound_lone_lem b a.book c a.low a.high) in
    record {
      left = left;
      stays = leaves_sound b (edit_in b c k) c (edited m k) a.book left (sound_of_good (edited m k) (good_edited m good k a.fits a.unrefused));
    }
