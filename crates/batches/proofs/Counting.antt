-- The lines of a text, counted.
use Prim.Native.Nat.{ℕ, ◌+◌, ◌≤◌, min}
use mathlib.Core.Path.{◌≡◌, ap}
use mathlib.Core.Bool.{Bool, true, false}
use mathlib.Core.List.{List, []}
use native.Mathlib.Omega.{arith}
use lib.Dec.{leb}
use lib.ListN.{length, drop, drop_of_length-le}
use borrow.Author.Tests.{leb-true, leb-false, lt-leb}
use Rattle.tables.proofs.Counts.{cases}
use Rattle.meaning.specs.Desk.{lines_of}
use Rattle.meaning.specs.Batch.{most, fits}

pub no_lines : (text : List ℕ) (at : ℕ) → length text ≤ at → lines_of (drop at text) ≡ []
unfolding lines_of
no_lines text at h = ap lines_of (drop_of_length-le text h)

-- ---- the room for their answers

-- of more than 64 lines as many are counted as tell that they are too many
pub counted_fits : (n m space : ℕ) → n ≡ min (most + 1) m → fits n space ≡ fits m space
unfolding fits
counted_fits n m space e =
    cases (leb m most)
    (λ x. let h = leb-true m most x in let i : n ≡ m = omega arith in rw i)
    (λ x. let h = leb-false m most x in rw (lt-leb n most (omega arith), x))
