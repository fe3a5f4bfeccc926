-- What a store at a place leaves, for any table: the place reads back as the record, every other place reads as before,
-- and so does a table that lies apart.
use Prim.Native.Nat.{ℕ, ◌+◌, ◌*◌, ◌≤◌, ◌<◌}
use mathlib.Core.Path.{◌≡◌, ap, sym, ◌∙◌}
use mathlib.Core.List.{List}
use mathlib.Core.Logic.{⊎_elim}
use native.Mathlib.Nat.{mul-le-mul, add-mul}
use native.Mathlib.Omega.{arith}
use lib.Dec.{ltb}
use lib.ListN.{length}
use borrow.Author.Tests.{ltb-true, ltb-false}
use Rattle.tables.specs.Bytes.{numbers, bytes_of, puts}
use Rattle.tables.specs.Table.{Table, width, address, end, Lies, Fits, Apart}
use Rattle.tables.proofs.Counts.{cases, cases_eq}
use Rattle.tables.proofs.Bytes.{length_puts, numbers_put, numbers_before, numbers_behind, bytes_most}

-- place j starts where place i has ended, or after
next_place : (i j w : ℕ) → i < j → i * w + w ≤ j * w
next_place i j w l =
    let s : i + 1 ≤ j = omega arith in
    let u : w ≤ w = omega arith in
    omega (arith, mul-le-mul s u, add-mul i 1 w)

module _ {P R : Type 0} (t : Table P R) (f : Lies t) (b : List ℕ) (i : ℕ) (r : P) where
  pub length_stored : length (t.put b i r) ≡ length b
  length_stored = ap length (f.stores b i r) ∙ length_puts (bytes_of t.widths (t.shown r)) b (address t i) 0

  pub back : Fits t r → i < t.places → end t ≤ length b → t.at (t.put b i r) i ≡ r
  back h l inside =
      let n = next_place i t.places (width t) l in
      f.reads (t.put b i r) i
      ∙ ap (λ z. t.from (numbers t.widths z (address t i) 0)) (f.stores b i r)
      ∙ ap t.from (numbers_put t.widths (t.shown r) b (address t i) 0 h.holds (omega arith))
      ∙ h.whole

  -- Numbers that end before the place starts, or start where it has ended, stay.
  module _ {Q S : Type 0} (u : Table Q S) (g : Lies u) (k : ℕ) where
    same_place : numbers u.widths (puts b (address t i) 0 (bytes_of t.widths (t.shown r))) (address u k) 0
        ≡ numbers u.widths b (address u k) 0
        → u.at (t.put b i r) k ≡ u.at b k
    same_place e =
        g.reads (t.put b i r) k
        ∙ ap (λ z. u.from (numbers u.widths z (address u k) 0)) (f.stores b i r)
        ∙ ap u.from e
        ∙ sym (g.reads b k)

    before : address u k + width u ≤ address t i → u.at (t.put b i r) k ≡ u.at b k
    before l =
        same_place (numbers_before u.widths (bytes_of t.widths (t.shown r)) b (address u k) (address t i) l)

    behind : address t i + width t ≤ address u k → u.at (t.put b i r) k ≡ u.at b k
    behind l =
        same_place
        (numbers_behind u.widths (bytes_of t.widths (t.shown r)) b (address u k) (address t i)
        (omega (arith, bytes_most t.widths (t.shown r))))

    -- Tables whose addresses do not meet do not disturb each other.
    pub apart : Apart t u → i < t.places → k < u.places → u.at (t.put b i r) k ≡ u.at b k
    apart a l m =
        let x = next_place i t.places (width t) l in
        let y = next_place k u.places (width u) m in
        ⊎_elim (λ e. behind (omega arith)) (λ e. before (omega arith)) a

  pub other : (k : ℕ) → (k ≡ i → ⊥) → t.at (t.put b i r) k ≡ t.at b k
  other k n =
      cases (ltb k i)
      (λ e. let x = next_place k i (width t) (ltb-true k i e) in before t f k (omega arith))
      (λ e.
      let l : i < k = cases_eq k i (λ z. absurd (n z)) (λ z. omega (arith, ltb-false k i e)) in
      let x = next_place i k (width t) l in
      behind t f k (omega arith))
