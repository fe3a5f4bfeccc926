-- Text as bytes, and bytes as numbers. Assumes nothing.
use Rattle.std.specs.Prelude.{ℕ, zero, suc, ◌+◌, ◌*◌, ◌-◌, ◌/◌, ◌%◌, Bool, true, false, cond, ◌&&◌, eqb}
use Prim.Native.String.{String, [] as no_text, ◌∷◌ as ◌then◌}
use Prim.Native.Char.{code}
use mathlib.Core.List.{List, [], ◌∷◌, ◌++◌, foldl}

-- the bytes of a text of ASCII
abbrev pub bytes : String → List ℕ
bytes no_text = []
bytes (◌then◌ c s) = code c ∷ bytes s

-- whether two lists are the same: texts, or the values of rows
abbrev pub same : List ℕ → List ℕ → Bool
same [] [] = true
same [] (d ∷ ds) = false
same (c ∷ cs) [] = false
same (c ∷ cs) (d ∷ ds) = eqb c d && same cs ds

-- a word's place in a list, from 1; one more than the list has where it is not there
abbrev pub word_place : List ℕ → List (List ℕ) → ℕ
word_place f [] = 1
word_place f (w ∷ ws) = cond (same f w) 1 (suc (word_place f ws))

-- how many bytes stand before the first c
abbrev pub place : ℕ → List ℕ → ℕ
place c [] = 0
place c (x ∷ xs) = cond (eqb x c) 0 (suc (place c xs))

-- the number of decimal digits
abbrev pub decimal : List ℕ → ℕ
decimal = foldl (λ n c. 10 * n + (c - 48)) 0

-- letters as a number: they are its digits in base 256, the first the highest, so that numbers rise as the words do in
-- ASCII
abbrev pub word : List ℕ → ℕ
word = foldl (λ n c. 256 * n + c) 0

-- ---- numbers as text

-- the decimal digits of n, which is at most k; none for 0
abbrev pub digits_to : ℕ → ℕ → List ℕ
digits_to zero n = []
digits_to (suc k) zero = []
digits_to (suc k) (suc n) = digits_to k (suc n / 10) ++ ((48 + suc n % 10) ∷ [])

-- a number in decimal, without leading zeros: what stands before the last digit, and that digit
unfoldable pub numeral : ℕ → List ℕ
numeral n = digits_to (n / 10) (n / 10) ++ ((48 + n % 10) ∷ [])

-- the k letters of a number
abbrev pub spelled : ℕ → ℕ → List ℕ
spelled zero n = []
spelled (suc k) n = spelled k (n / 256) ++ (n % 256 ∷ [])
