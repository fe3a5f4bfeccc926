-- The entry of a list at an index: a function done to each entry, and a test that each passes.
use Prim.Native.Nat.{ℕ, zero, suc, ◌<◌}
use mathlib.Core.Path.{◌≡◌, refl}
use mathlib.Core.Bool.{Bool, true}
use mathlib.Core.List.{List, [], ◌∷◌, map}
use native.Mathlib.Omega.{arith}
use lib.ListN.{length, get_or}
use Rattle.tables.specs.Count.{every}
use Rattle.tables.proofs.Counts.{both}

pub map_entry : {A B : Type 0} (f : A → B) (l : List A) (n : ℕ) (d : A) (e : B) → n < length l → get_or (map f l) n e ≡ f (get_or l n d)
map_entry f [] n d e h = absurd (omega arith)
map_entry f (x ∷ xs) zero d e h = refl
map_entry f (x ∷ xs) (suc n) d e h = map_entry f xs n d e (omega arith)

pub every_entry : {A : Type 0} (p : A → Bool) (l : List A) (n : ℕ) (d : A) → every p l ≡ true → n < length l → p (get_or l n d) ≡ true
unfolding every
every_entry p [] n d e h = absurd (omega arith)
every_entry p (x ∷ l) zero d e h = (both (p x) (every p l) e).0
every_entry p (x ∷ l) (suc n) d e h = every_entry p l n d (both (p x) (every p l) e).1 (omega arith)
