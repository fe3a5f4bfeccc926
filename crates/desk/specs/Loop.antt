-- What the desk's loop does with an input: it hands it in pieces to `lines`. Assumes nothing.
use Rattle.std.specs.Prelude.{ℕ, ◌+◌, ◌≤◌, ◌≡◌, List, length, take, min, Some, Result, Ok, Err, IfOk}
use Rattle.book.specs.Emptied.{Emptied}
use Rattle.lines.specs.Pieces.{at_first, Piece, End}
use Rattle.lines.specs.Whole.{Fed, joined, Alone}
use Rattle.lines.specs.declared.Desk.{Desk}
use Rattle.lines.specs.declared.Step.{Step}
use Rattle.desk.specs.declared.Failure.{Failure}
use Rattle.desk.specs.declared.Failure.TheVariants.{Failed}

-- of what `read` answered into a space: how many of its bytes came, never more than it has; an error is a failure
abbrev pub Gave : {E : Type 0} → Result ℕ E → List ℕ → Result ℕ Failure → Type 0
Gave (Ok n) space r = r ≡ Ok (min n (length space))
Gave (Err e) space r = r ≡ Err Failed

-- bytes were read behind the held ones, which stay; r says how many
pub record Behind (held : ℕ) (t : List ℕ) (r : Result ℕ Failure) (t' : List ℕ) : Type 0 where
  pub front : take held t' ≡ take held t
  pub inside : IfOk r (λ n. held + n ≤ length t')

-- a piece was handed on, and there was room; r is the desk after it, or that its answers could not be written
pub record Hands (d : Desk) (came : ℕ) (b t : List ℕ) (r : Result Desk Failure) (b' t' : List ℕ) : Type 0 where
  pub out : List ℕ
  pub out' : List ℕ
  pub step : Step
  pub piece : Piece d came b t out (Some step) b' t' out'
  pub desk : IfOk r (λ d'. d' ≡ step.desk)

-- so was the end of input
pub record Ends (d : Desk) (b t b' : List ℕ) : Type 0 where
  pub out : List ℕ
  pub out' : List ℕ
  pub step : Step
  pub end : End d b t out (Some step) b' out'

-- the pieces that were read up to the end of input, and what was written: `WholeText.whole` and `desk_alone` of `lines`
-- speak of these
pub record Input (b t b' : List ℕ) : Type 0 where
  pub pieces : List (List ℕ)
  pub written : List ℕ
  pub fed : Fed (at_first b) b t pieces written b'

-- an input over a lent book that was emptied for it: from the emptied book on its pieces were handed on up to the end.
-- Demand 3 for it: what was written are answers of which those at the lines that name a depository are its lone book's.
pub record OneInput (lent text after : List ℕ) : Type 0 where
  pub start : List ℕ
  pub emptied : Emptied lent start (Ok tt)
  pub input : Input start text after
  pub alone : Alone (joined input.pieces) input.written
