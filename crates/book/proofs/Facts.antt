-- A SOUND BOOK AS FACTS, and back: the exact size, each place all zero or a depository's, each depository's lone book
-- sound.
use Prim.Native.Nat.{ℕ, ◌+◌, ◌-◌, ◌≤◌, ◌<◌}
use mathlib.Core.Path.{◌≡◌, refl}
use mathlib.Core.Bool.{Bool, true, false, ◌||◌}
use mathlib.Core.List.{List}
use native.Mathlib.Omega.{arith}
use lib.ListN.{length}
use borrow.Author.Tests.{eqb-true, leb-true}
use Rattle.tables.proofs.Counts.{ands, all_at}
use Rattle.meaning.specs.Fields.{within}
use Rattle.meaning.specs.Sound.{sound_lone}
use Rattle.places.specs.Layout.{book_size}
use Rattle.records.specs.Tables.{TableName, table}
use Rattle.records.proofs.TableFacts.{lies, every_table_lem}
use Rattle.book.specs.Lone.{list, lone_book}
use Rattle.book.specs.Sound.{placed, placed_in, all_placed, sound}
use Rattle.book.proofs.Lists.{quota_kept}

-- place i of a table is all zero or a depository's
abbrev pub PlaceRight : List ℕ → TableName → ℕ → Type 0
PlaceRight b k i = ((table k).free ((table k).at b i) || within 1 8 ((table k).csd ((table k).at b i))) ≡ true

pub record GoodBook (b : List ℕ) : Type 0 where
  pub size : length b ≡ book_size
  pub places : (k : TableName) (i : ℕ) → i < (table k).places → PlaceRight b k i
  pub lone : (a : ℕ) → 1 ≤ a → a ≤ 8 → sound_lone (lone_book a b) ≡ true

pub places_right : (b : List ℕ) (k : TableName) → placed_in b k ≡ true → (i : ℕ) → i < (table k).places → PlaceRight b k i
unfolding placed
places_right b k e =
    all_at (λ i. (table k).free ((table k).at b i) || within 1 8 ((table k).csd ((table k).at b i))) (table k).places e

pub facts_of_sound : (b : List ℕ) → sound b ≡ true → GoodBook b
unfolding sound all_placed
facts_of_sound b e = record {
  size = eqb-true (length b) book_size (search ands);
  places = λ k. places_right b k (every_table_lem (placed_in b) (search ands) k);
  lone = λ a low high.
      let z : a - 1 + 1 ≡ a = omega arith in
      rw z at (all_at (λ a. sound_lone (lone_book (a + 1) b)) 8 (search ands) (a - 1) (omega arith));
}

-- ---- a place that is not free is a depository's, and a depository's lists are within their quotas

owner : (c : ℕ) (z : Bool) → (z ≡ true → c ≡ 0) → (z || within 1 8 c) ≡ true → (c ≡ 0 → ⊥) → (1 ≤ c) × (c ≤ 8)
owner c true nobody e h = absurd (h (nobody refl))
owner c false nobody e h = (leb-true 1 c (search ands), leb-true c 8 (search ands))

module _ (b : List ℕ) (g : GoodBook b) (k : TableName) where
  pub place_owner : (i : ℕ) → i < (table k).places → ((table k).csd ((table k).at b i) ≡ 0 → ⊥)
      → (1 ≤ (table k).csd ((table k).at b i)) × ((table k).csd ((table k).at b i) ≤ 8)
  place_owner i l h =
      owner ((table k).csd ((table k).at b i)) ((table k).free ((table k).at b i)) ((lies k).nobody ((table k).at b i)) (g.places k i l) h

  pub list_few : (c : ℕ) → 1 ≤ c → c ≤ 8 → length (list k (lone_book c b)) ≤ (table k).quota
  unfolding sound_lone
  list_few c low high = let e = g.lone c low high in quota_kept (lone_book c b) (search ands) k
