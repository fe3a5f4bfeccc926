-- Whose a place is: its first number, of one byte, is its depository.
use Prim.Native.Nat.{ℕ, ◌+◌, ◌*◌}
use mathlib.Core.Path.{◌≡◌, sym, ap, ◌∙◌}
use mathlib.Core.List.{List}
use Rattle.tables.specs.Bytes.{Width, one, byte_at, number, numbers}

module _ {P : Type 0} (csd : P → ℕ) (at : List ℕ → ℕ → P) (from : List ℕ → P) (widths : List Width) (start width : ℕ)
    (reads : (b : List ℕ) (i : ℕ) → at b i ≡ from (numbers widths b (start + i * width) 0))
    (first : (b : List ℕ) (a : ℕ) → csd (from (numbers widths b a 0)) ≡ number one b a 0) where
  pub owner_at : (b : List ℕ) (i a r : ℕ) → a ≡ start + i * width → r ≡ byte_at b (a + 0) → r ≡ csd (at b i)
  owner_at b i a r e f = f ∙ rw (e, reads b i, first b (start + i * width))
