-- A batch of lines from one depository (document 02, request a): which batch is taken, the lines that it stands as, and
-- where its answers stand. Assumes nothing.
use Rattle.std.specs.Prelude.{ℕ, ◌-◌, ◌*◌, Bool, cond, ◌&&◌, List, [], ◌∷◌, ◌++◌, Result, Ok, Err, leb, length, drop, replicate}
use Rattle.meaning.specs.Desk.{lines_of}
use Rattle.meaning.specs.Printing.{printed}
use Rattle.meaning.specs.declared.Answer.{Answer}
use Rattle.meaning.specs.declared.Refusal.{Refusal}
use Rattle.meaning.specs.declared.Refusal.TheVariants.{BatchTooLarge}

-- a batch has at most 64 lines
abbrev pub most : ℕ
most = 64

-- an answer has 32 bytes of the answer space
abbrev pub width : ℕ
width = 32

-- so many lines are a batch, and a space of so many bytes takes their answers; 11 where not
unfoldable pub fits : ℕ → ℕ → Bool
fits n space = leb n most && leb (width * n) space

-- what the step returns: the number of lines, or 11
unfoldable pub batch_result : List ℕ → ℕ → Result ℕ Refusal
unfolding fits lines_of
batch_result text space = cond (fits (length (lines_of text)) space) (Ok (length (lines_of text))) (Err BatchTooLarge)

-- the lines that a batch stands as, parted as at the desk; none where it is refused 11
unfoldable pub batch_lines : List ℕ → ℕ → List (List ℕ)
unfolding fits lines_of
batch_lines text space = cond (fits (length (lines_of text)) space) (lines_of text) []

-- zeros fill the 32 bytes of an answer
unfoldable pub filled : List ℕ → List ℕ
filled l = l ++ replicate (width - length l) 0

-- answer i, as printed without byte 10, stands at byte 32 × i
unfoldable pub spaced : List Answer → List ℕ
unfolding filled printed
spaced [] = []
spaced (a ∷ as') = filled (printed a) ++ spaced as'

-- the answer space after a batch: the answers, and the later bytes as they were
unfoldable pub space_after : List Answer → List ℕ → List ℕ
unfolding spaced
space_after as' space = spaced as' ++ drop (length (spaced as')) space
