-- A free place is found in every table where the depository has room.
use Prim.Native.Nat.{ℕ, ◌≤◌, ◌<◌}
use mathlib.Core.Path.{◌≡◌, ap}
use mathlib.Core.Bool.{Bool, true}
use mathlib.Core.List.{List}
use native.Mathlib.Omega.{arith}
use lib.ListN.{length}
use Rattle.tables.specs.Table.{place_of}
use Rattle.tables.proofs.Listed.{found_free}
use Rattle.records.specs.Tables.{TableName, Said, table}
use Rattle.records.proofs.TableFacts.{room}
use Rattle.book.specs.Lone.{lone_book, list}
use Rattle.book.proofs.Facts.{GoodBook, place_owner, list_few}
use Rattle.book.proofs.Lists.{lone_list}

pub free_in : (k : TableName) (b : List ℕ) → GoodBook b → (p : Said k → Bool) → ((x : Said k) → p x ≡ true) → (c : ℕ)
    → 1 ≤ c → c ≤ 8 → length (list k (lone_book c b)) < (table k).quota
    → (place_of (table k) b 0 p < (table k).places) × ((table k).csd ((table k).at b (place_of (table k) b 0 p)) ≡ 0)
free_in k b g p any c low high r =
    found_free (table k) b p any 8 (room k)
    (λ c low high. omega (arith, list_few b g k c low high, ap length (lone_list k c b))) (place_owner b g k) c low high
    (omega (arith, ap length (lone_list k c b)))
