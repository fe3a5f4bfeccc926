-- A depository's list is full if a count of its records reaches the quota.
use Prim.Native.Nat.{ℕ}
use mathlib.Core.Path.{◌≡◌, ap, ap₂, sym, ◌∙◌, fun_ext}
use mathlib.Core.Bool.{Bool, true}
use mathlib.Core.List.{List}
use lib.Dec.{leb}
use lib.ListN.{length}
use Rattle.tables.specs.Count.{count}
use Rattle.tables.specs.Table.{Table, list_of}
use Rattle.tables.proofs.Counts.{count_length}

module _ {P R Ask : Type 0} (t : Table P R) (asked : Ask → R → Bool) (any : Ask) (all : (x : R) → asked any x ≡ true) (a : ℕ) (b : List ℕ) where
  pub full_of : (quota p n : ℕ) (q : Ask) → quota ≡ p → t.quota ≡ p → q ≡ any → n ≡ count (asked q) (list_of t a b)
      → leb quota n ≡ leb t.quota (length (list_of t a b))
  full_of quota p n q e f g h =
      ap₂ leb (e ∙ sym f)
      (h ∙ ap (λ x. count x (list_of t a b)) (ap asked g ∙ fun_ext all) ∙ count_length (list_of t a b))
