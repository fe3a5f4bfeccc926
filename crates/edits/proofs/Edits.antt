-- What each edit of one table leaves of the lone books, once its place is found, for any table.
use Prim.Native.Nat.{ℕ, ◌≤◌, ◌<◌}
use mathlib.Core.Path.{◌≡◌, ap, sym, ◌∙◌}
use mathlib.Core.Bool.{Bool, true, ◌||◌}
use mathlib.Core.List.{List, ◌∷◌}
use native.Mathlib.Omega.{arith}
use lib.ListN.{length}
use Rattle.tables.specs.Count.{count, without, change}
use Rattle.tables.specs.Table.{end, vacant, list_of, Fits}
use Rattle.tables.proofs.Lists.{same_equal}
use Rattle.tables.proofs.Stored.{back, other}
use Rattle.tables.proofs.Listed.{vacant_fits, vacant_nobody, list_still, list_added, list_removed, list_changed}
use Rattle.meaning.specs.Fields.{within}
use Rattle.places.specs.Layout.{book_size}
use Rattle.records.specs.Tables.{TableName, Place, Said, table}
use Rattle.records.proofs.TableFacts.{lies}
use Rattle.records.proofs.Tables.{inside}
use Rattle.book.specs.Lone.{lone_book, list}
use Rattle.book.specs.Sound.{placed_in}
use Rattle.book.proofs.Lists.{lone_list, with_list}
use Rattle.book.proofs.Placed.{of_one, placed_put}
use Rattle.edits.specs.Leaves.{Leaves}
use Rattle.edits.proofs.Alone.{only_stored, only_leaves}

module _ (k : TableName) (b : List ℕ) (i : ℕ) (size : length b ≡ book_size) (place : i < (table k).places) where
  lies_inside : end (table k) ≤ length b
  lies_inside = omega (arith, inside k)

  module _ (r : Place k) (fits : Fits (table k) r) where
    pub stored_placed : ((table k).free r || within 1 8 ((table k).csd r)) ≡ true → placed_in b k ≡ true
        → placed_in ((table k).put b i r) k ≡ true
    stored_placed e all =
        placed_put (table k).csd (table k).free ((table k).at b) ((table k).at ((table k).put b i r)) (table k).places all i
        (other (table k) (lies k) b i r)
        (rw (back (table k) (lies k) b i r fits place lies_inside) e)

    -- a place that stays out of a's hands
    still : (a : ℕ) → ((table k).csd ((table k).at b i) ≡ a → ⊥) → ((table k).csd r ≡ a → ⊥)
        → list k (lone_book a ((table k).put b i r)) ≡ list k (lone_book a b)
    still a d e =
        lone_list k a ((table k).put b i r)
        ∙ list_still (table k) (lies k) b i place lies_inside r fits a d e
        ∙ sym (lone_list k a b)

    -- T, R, M and A: a record more at a free place
    pub added : (c : ℕ) → (table k).csd r ≡ c → (table k).csd ((table k).at b i) ≡ 0 → 1 ≤ c → c ≤ 8
        → Leaves b ((table k).put b i r) c (with_list k ((table k).rec r ∷ list k (lone_book c b)) (lone_book c b))
    added c o free low high =
        let more = list_added (table k) (lies k) b i place lies_inside r fits c o (λ e. omega (arith, free, e)) in
        only_leaves k b ((table k).put b i r) (only_stored k b i r place) c ((table k).rec r ∷ list k (lone_book c b))
        (stored_placed (of_one ((table k).free r) ((table k).csd r) (omega (arith, o)) (omega (arith, o))))
        (λ p.
        ap (count p) (lone_list k c ((table k).put b i r))
        ∙ more p
        ∙ ap (λ l. count p ((table k).rec r ∷ l)) (sym (lone_list k c b)))
        (λ a l d. still a (λ e. omega (arith, free, e)) (λ e. d (sym o ∙ e)))

  -- the one record of depository c's that passes the test q stands at the place
  module _ (c : ℕ) (low : 1 ≤ c) (q : Said k → Bool) (own : (table k).csd ((table k).at b i) ≡ c) (hit : q ((table k).rec ((table k).at b i)) ≡ true) (once : count q (list k (lone_book c b)) ≤ 1) where
    only_once : count q (list_of (table k) c b) ≤ 1
    only_once = omega (arith, ap (count q) (lone_list k c b))

    -- D and N: its place is free again
    pub deleted : Leaves b ((table k).put b i (vacant (table k))) c (with_list k (without q (list k (lone_book c b))) (lone_book c b))
    deleted =
        let r = vacant (table k) in
        only_leaves k b ((table k).put b i r) (only_stored k b i r place) c (without q (list k (lone_book c b)))
        (stored_placed r (vacant_fits (table k) (lies k)) (rw (lies k).empty))
        (same_equal
        (lone_list k c ((table k).put b i r)
        ∙ list_removed (table k) (lies k) b i place lies_inside c q own hit only_once low
        ∙ ap (without q) (sym (lone_list k c b))))
        (λ a l d.
        still r (vacant_fits (table k) (lies k)) a (λ e. d (sym own ∙ e)) (λ e. omega (arith, vacant_nobody (table k) (lies k), e)))

    -- E, Z, and O of the rule: it is changed where it stands
    pub changed : (r : Place k) (g : Said k → Said k) → Fits (table k) r → c ≤ 8 → (table k).csd r ≡ c
        → (table k).rec r ≡ g ((table k).rec ((table k).at b i))
        → Leaves b ((table k).put b i r) c (with_list k (change q g (list k (lone_book c b))) (lone_book c b))
    changed r g fits high o f =
        only_leaves k b ((table k).put b i r) (only_stored k b i r place) c (change q g (list k (lone_book c b)))
        (stored_placed r fits (of_one ((table k).free r) ((table k).csd r) (omega (arith, o)) (omega (arith, o))))
        (same_equal
        (lone_list k c ((table k).put b i r)
        ∙ list_changed (table k) (lies k) b i place lies_inside c q own hit only_once r g fits o f
        ∙ ap (change q g) (sym (lone_list k c b))))
        (λ a l d. still r fits a (λ e. d (sym own ∙ e)) (λ e. d (sym o ∙ e)))
