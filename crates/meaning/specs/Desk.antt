-- The desk program's input and output as texts (document 01, 'The desk program'). Assumes nothing.
use Rattle.std.specs.Prelude.{ℕ, List, [], ◌∷◌, ◌++◌, eqb}
use Rattle.meaning.specs.Fields.{before}
use Rattle.meaning.specs.Printing.{printed}
use Rattle.meaning.specs.declared.Answer.{Answer}

-- the lines of a text: each is ended by byte 10 or the end, and no line follows a final byte 10
unfoldable pub lines_of : List ℕ → List (List ℕ)
lines_of [] = []
lines_of (c ∷ cs) = before (eqb c 10) c (lines_of cs)

-- one printed line per answer, each ended by byte 10
unfoldable pub output : List Answer → List ℕ
unfolding printed
output [] = []
output (a ∷ as') = printed a ++ (10 ∷ output as')
