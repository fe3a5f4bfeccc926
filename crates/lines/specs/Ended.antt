-- A text that is still coming in: its lines that are ended by byte 10, and the line that is begun behind them. Assumes
-- nothing.
use Rattle.std.specs.Prelude.{ℕ, Bool, true, false, cond, List, [], ◌∷◌, eqb, take}
use Rattle.tables.specs.Count.{has}

-- a byte, told whether it is byte 10, in front of the ended lines of the bytes behind it; a line that is not ended is
-- none of them
abbrev pub in_front : Bool → ℕ → List (List ℕ) → List (List ℕ)
in_front true c ls = [] ∷ ls
in_front false c [] = []
in_front false c (l ∷ ls) = (c ∷ l) ∷ ls

-- the lines that are ended by byte 10
unfoldable pub ended : List ℕ → List (List ℕ)
ended [] = []
ended (c ∷ cs) = in_front (eqb c 10) c (ended cs)

-- what stands behind the last byte 10
unfoldable pub begun : List ℕ → List ℕ
unfolding has
begun [] = []
begun (c ∷ cs) = cond (has (λ d. eqb d 10) (c ∷ cs)) (begun cs) (c ∷ cs)

-- the end of input ends the line that is begun, if there is one
unfoldable pub last_line : List ℕ → List (List ℕ)
last_line [] = []
last_line (c ∷ cs) = (c ∷ cs) ∷ []

-- as much of a line as its answer depends on: a line over 80 bytes is refused, whatever stands in it
abbrev pub short : List ℕ → List ℕ
short line = take 81 line
