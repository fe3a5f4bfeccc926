-- What a step over many lines means, in the terms of what `submit` promises. Assumes nothing.
use Rattle.std.specs.Prelude.{ℕ, ◌+◌, ◌<◌, ◌≡◌, true, List, [], ◌++◌, length}
use Rattle.meaning.specs.Desk.{output}
use Rattle.meaning.specs.Lone.{told}
use Rattle.meaning.specs.declared.Answer.{Answer}
use Rattle.meaning.specs.declared.Sent.TheVariants.{Alone}
use Rattle.book.specs.Sound.{sound}
use Rattle.precheck.specs.Batch.{Steps}
use Rattle.lines.specs.Ended.{ended}
use Rattle.lines.specs.Many.{laid, bytes_in}
use Rattle.lines.specs.declared.Progress.{Progress}

-- lines submitted to a book one by one, with their answers, and the book after them: each step is what `submit`
-- promises
abbrev pub Singly : List ℕ → List (List ℕ) → List Answer → List ℕ → Type 0
Singly before lines answers after = Steps before (told Alone lines) answers after

-- the first of a text's ended lines are submitted, and their answers written one behind the other; it stops at the last
-- line, or where there is no room for an answer
pub record SentLines (b text o : List ℕ) (r : Progress) (b' o' : List ℕ) : Type 0 where
  pub lines : List (List ℕ)
  pub others : List (List ℕ)
  pub answers : List Answer
  pub first : ended text ≡ lines ++ others
  pub read : r.read ≡ bytes_in lines
  pub sent : Singly b lines answers b'
  pub out : o' ≡ laid o 0 (output answers)
  pub written : r.written ≡ length (output answers)
  pub stops : (others ≡ [] → ⊥) → length o < r.written + 33
  -- a sound book stays sound
  pub stays : sound b ≡ true → sound b' ≡ true
