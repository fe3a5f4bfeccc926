-- The status of an instruction, Y where it is on party hold (document 02, request b; source document 004, 'Hold/Release
-- Default'). Assumes nothing.
use Rattle.std.specs.Prelude.{Bool, false, cond, ◌||◌, Option, Some, None, is_some, unwrap_or}
use Rattle.meaning.specs.Judging.{rejected}
use Rattle.meaning.specs.declared.Deciding.{Deciding}
use Rattle.meaning.specs.declared.Verdict.{Verdict}
use Rattle.meaning.specs.declared.Wishes.{Wishes}
use Rattle.meaning.specs.declared.Answer.{Answer}
use Rattle.meaning.specs.declared.Answer.TheVariants.{Taken, Refused, Judged, WithStatus}

-- a hold is on if a rule decides so
abbrev pub is_on : Option Deciding → Bool
is_on d = is_some d

-- the indicator is Y, or it is empty and the account's default is Y
unfoldable pub wished : Wishes → Bool
wished w = unwrap_or w.indicator (unwrap_or w.default false)

-- A rejection gives N; otherwise Y exactly if a party hold rule applies or the hold is wished for. A validation hold
-- does not count.
unfoldable pub status : Verdict → Wishes → Bool
unfolding wished
status v w = cond (rejected v) false (is_on v.party || wished w)

-- whether a line carries the two fields: the default is then filled
abbrev pub carried : Wishes → Bool
carried w = is_some w.default

-- the answer to a question that was judged so: it ends with the status where the line carries the two fields
unfoldable pub answer_to : Verdict → Wishes → Answer
unfolding status
answer_to v w = cond (carried w) (WithStatus v (status v w)) (Judged v)

-- the status that an answer ends with, if it has one
unfoldable pub status_in : Answer → Option Bool
status_in Taken = None
status_in (Refused r) = None
status_in (Judged v) = None
status_in (WithStatus v s) = Some s
