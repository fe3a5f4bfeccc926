-- The bytes of a line and its fields (document 01, 'Lines'). Assumes nothing.
use Rattle.std.specs.Prelude.{ℕ, Bool, true, false, ◌&&◌, ◌||◌, List, [], ◌∷◌, leb, eqb, length}
use Rattle.tables.specs.Count.{every}

abbrev pub within : ℕ → ℕ → ℕ → Bool
within low high n = leb low n && leb n high

abbrev pub is_digit : ℕ → Bool
is_digit = within 48 57

abbrev pub is_capital : ℕ → Bool
is_capital = within 65 90

abbrev pub is_comma : ℕ → Bool
is_comma c = eqb c 44

-- only digits, capital ASCII letters and commas occur
abbrev pub allowed : ℕ → Bool
allowed c = is_digit c || is_capital c || is_comma c

-- 1 to 80 bytes, each allowed
unfoldable pub well_made : List ℕ → Bool
unfolding every
well_made line = within 1 80 (length line) && every allowed line

-- a byte, told whether it is a comma, in front of the fields of the bytes behind it
abbrev pub before : Bool → ℕ → List (List ℕ) → List (List ℕ)
before true c fs = [] ∷ fs
before false c [] = (c ∷ []) ∷ []
before false c (f ∷ fs) = (c ∷ f) ∷ fs

-- what stands between commas: one field more than there are commas
unfoldable pub fields : List ℕ → List (List ℕ)
fields [] = [] ∷ []
fields (c ∷ cs) = before (is_comma c) c (fields cs)
