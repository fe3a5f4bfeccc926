-- A printed answer as bytes. Assumes nothing.
use Rattle.std.specs.Prelude.{ℕ, ◌≤◌, ◌≡◌, List, [], ◌∷◌, length, Option}
use Rattle.meaning.specs.Printing.{listed, deciding_numbers, printed}
use Rattle.meaning.specs.declared.Deciding.{Deciding}
use Rattle.meaning.specs.declared.Verdict.{Verdict}
use Rattle.meaning.specs.declared.Answer.{Answer}
use Rattle.meaning.specs.declared.Answer.TheVariants.{Judged}

-- type and sequence of what decides, each behind a comma
unfoldable pub deciding_text : Option Deciding → List ℕ
deciding_text d = listed ((deciding_numbers d).0 ∷ (deciding_numbers d).1 ∷ [])

-- r is the printed form of an answer, which has at most so many bytes
pub record PrintsIn (most : ℕ) (a : Answer) (r : List ℕ) : Type 0 where
  pub text : r ≡ printed a
  pub few : length r ≤ most

-- 32 bytes hold every answer
abbrev pub Prints : Answer → List ℕ → Type 0
Prints = PrintsIn 32

-- and a verdict leaves two of them, for the status
abbrev pub PrintsVerdict : Verdict → List ℕ → Type 0
PrintsVerdict v = PrintsIn 30 (Judged v)
