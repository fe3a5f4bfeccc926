-- A row of numbers with zeros after them reads as the numbers do.
use Prim.Native.Nat.{ℕ, zero, suc}
use mathlib.Core.Path.{◌≡◌, refl, ap, sym, ◌∙◌}
use mathlib.Core.List.{List, [], ◌∷◌}
use lib.ListN.{get_or, replicate, set}
use lib.Seq.{sets}
use Rattle.meaning.specs.Forms.{
  Letter,
  letter_t,
  letter_e,
  letter_r,
  letter_o,
  letter_d,
  letter_m,
  letter_n,
  letter_a,
  letter_z,
  letter_q,
}
use Rattle.meaning.specs.Records.{command_of}
use Rattle.tables.specs.Padded.{padded}

padded_none : (n : ℕ) → padded n [] ≡ replicate n 0
unfolding padded
padded_none zero = refl
padded_none (suc n) = rw (padded_none n)

sets_later : (ns : List ℕ) (x i : ℕ) (row : List ℕ) → sets (x ∷ row) (suc i) ns ≡ x ∷ sets row i ns
sets_later [] x i row = refl
sets_later (n ∷ ns) x i row = sets_later ns x (suc i) (set row i n)

sets_nothing : (ns : List ℕ) (i : ℕ) → sets [] i ns ≡ []
sets_nothing [] i = refl
sets_nothing (n ∷ ns) i = sets_nothing ns (suc i)

-- numbers stored one after the other in a row of zeros
pub sets_padded : (n : ℕ) (ns : List ℕ) → sets (replicate n 0) 0 ns ≡ padded n ns
unfolding padded
sets_padded n [] = sym (padded_none n)
sets_padded zero (x ∷ ns) = sets_nothing ns 1
sets_padded (suc n) (x ∷ ns) = sets_later ns x 0 (replicate n 0) ∙ ap (λ l. x ∷ l) (sets_padded n ns)

-- the first n values of f
abbrev values : (ℕ → ℕ) → ℕ → List ℕ
values f zero = []
values f (suc n) = f 0 ∷ values (λ i. f (suc i)) n

padded_values : (n : ℕ) (ns : List ℕ) → padded n ns ≡ values (λ i. get_or ns i 0) n
unfolding padded
padded_values zero ns = refl
padded_values (suc n) [] = ap (λ l. 0 ∷ l) (padded_values n [])
padded_values (suc n) (x ∷ ns) = ap (λ l. x ∷ l) (padded_values n ns)

-- What a line asks is the same by the row of sixteen as by the fields' numbers.
pub command_padded : (l : Letter) (ns : List ℕ) → command_of l (padded 16 ns) ≡ command_of l ns
unfolding command_of
command_padded letter_t ns = rw (padded_values 16 ns)
command_padded letter_e ns = rw (padded_values 16 ns)
command_padded letter_r ns = rw (padded_values 16 ns)
command_padded letter_o ns = rw (padded_values 16 ns)
command_padded letter_d ns = rw (padded_values 16 ns)
command_padded letter_m ns = rw (padded_values 16 ns)
command_padded letter_n ns = rw (padded_values 16 ns)
command_padded letter_a ns = rw (padded_values 16 ns)
command_padded letter_z ns = rw (padded_values 16 ns)
command_padded letter_q ns = rw (padded_values 16 ns)
