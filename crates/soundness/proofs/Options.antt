-- What is known of an Option that is a value, or none.
use Rattle.std.proofs.Common.{◌≡◌, ℕ, Bool, true, false, sym, ap}
use Rattle.std.specs.Prelude.{Option, Some, None}
use mathlib.Core.Bool.{false≢true}

abbrev some : Option ℕ → Bool
some (Some n) = true
some None = false

abbrev number_of : Option ℕ → ℕ
number_of (Some n) = n
number_of None = 0

pub some_none : {n : ℕ} → Some n ≡ None → ⊥
some_none e = false≢true (sym (ap some e))

pub some_same : {n m : ℕ} → Some n ≡ Some m → n ≡ m
some_same e = ap number_of e
