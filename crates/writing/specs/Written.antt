-- Bytes put one after the other into a fixed space. Assumes nothing.
use Rattle.std.specs.Prelude.{ℕ, cond, List, [], ◌∷◌, ◌++◌, ltb, length, take}

-- the longest line has 80 bytes
abbrev pub space : ℕ
space = 80

-- one byte more, where there is room
unfoldable pub added : List ℕ → ℕ → List ℕ
added w c = cond (ltb (length w) space) (w ++ (c ∷ [])) w

-- bytes more, one after the other
unfoldable pub added_all : List ℕ → List ℕ → List ℕ
unfolding added
added_all w [] = w
added_all w (c ∷ cs) = added_all (added w c) cs

-- a text; what does not fit is left out
abbrev pub written_as : List ℕ → List ℕ
written_as t = take space t
