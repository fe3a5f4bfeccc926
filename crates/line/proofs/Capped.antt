-- Numbers that the code gives up to a bound.
use mathlib.Core.Path.{◌≡◌, refl, ◌∙◌}
use mathlib.Core.Bool.{Bool, true, false, ◌&&◌, and-false}
use mathlib.Core.List.{List}
use Rattle.std.specs.Prelude.{Option, None}
use Rattle.std.specs.Bool.{then_some}
use Prim.Native.Nat.{ℕ, ◌≤◌, ◌<◌, ◌/◌, min}
use native.Mathlib.Omega.{arith}
use lib.Dec.{leb}
use lib.ListN.{length}
use borrow.Author.Tests.{leb-true, leb-false, lt-leb, eq-eqb, ne_eqb}
use Rattle.tables.specs.Count.{every}
use Rattle.meaning.specs.Text.{word}
use Rattle.meaning.specs.Fields.{within, is_capital}
use Rattle.meaning.specs.Forms.{given, is_code, is_day, read, letters}

-- std's `then_some` and the meaning's `given`
pub given_lem : (t : Bool) (n : ℕ) → then_some t n ≡ given t n
given_lem true n = refl
given_lem false n = refl

-- a test that no number from 100000000 on passes says the same of a number and of what `decimal` gives for it
pub capped : (p : ℕ → Bool) → ((n : ℕ) → 100000000 ≤ n → p n ≡ false) → (t : Bool) (n : ℕ)
    → then_some (t && p (min n 100000000)) (min n 100000000) ≡ given (t && p n) n
capped p high t n = given_lem (t && p (min n 100000000)) (min n 100000000) ∙ go (leb n 100000000) refl
  where
    go : (b : Bool) → leb n 100000000 ≡ b → given (t && p (min n 100000000)) (min n 100000000) ≡ given (t && p n) n
    go true e = let small = leb-true n 100000000 e in let same : min n 100000000 ≡ n = omega arith in rw same
    go false e = let large = leb-false n 100000000 e in rw (high n (omega arith), high (min n 100000000) (omega arith), and-false t)

pub high_within : (max : ℕ) → max < 100000000 → (n : ℕ) → 100000000 ≤ n → within 1 max n ≡ false
high_within max h n k = rw (lt-leb n max (omega arith)) (and-false (leb 1 n))

pub high_code : (n : ℕ) → 100000000 ≤ n → is_code n ≡ false
high_code n k = rw (lt-leb (n / 100) 99 (omega arith), and-false)

pub high_day : (n : ℕ) → 100000000 ≤ n → is_day n ≡ false
high_day n k = rw (lt-leb (n / 10000) 2099 (omega arith), and-false)

-- ---- letters

module _ (f : List ℕ) (n : ℕ) where
  pub other_length : (length f ≡ n → ⊥) → None ≡ read (letters n) f
  unfolding read
  other_length h = rw (ne_eqb (length f) n h)

  pub right_length : {v : Option ℕ} {t : Bool} {m : ℕ} → length f ≡ n → t ≡ every is_capital f → m ≡ word f → v ≡ then_some t m → v ≡ read (letters n) f
  unfolding read
  right_length {v} {t} {m} h p q e = let g = e ∙ given_lem t m in rw (eq-eqb (length f) n h) (cc)
