-- The printed form of an answer (document 01, 'The desk program'; document 02, request b). Assumes nothing.
use Rattle.std.specs.Prelude.{ℕ, Bool, true, false, List, [], ◌∷◌, ◌++◌, Option, Some, None}
use Rattle.meaning.specs.Text.{bytes, numeral}
use Rattle.meaning.specs.Refusals.{number_of}
use Rattle.meaning.specs.Judging.{rejected}
use Rattle.meaning.specs.declared.Deciding.{Deciding}
use Rattle.meaning.specs.declared.Verdict.{Verdict}
use Rattle.meaning.specs.declared.Answer.{Answer}
use Rattle.meaning.specs.declared.Answer.TheVariants.{Taken, Refused, Judged, WithStatus}

-- A accepted, R rejected
abbrev pub verdict_text : Bool → List ℕ
verdict_text true = bytes "V,R"
verdict_text false = bytes "V,A"

-- the letters in front of an answer's numbers
unfoldable pub text_of : Answer → List ℕ
text_of Taken = bytes "K"
text_of (Refused r) = bytes "F"
text_of (Judged v) = verdict_text (rejected v)
text_of (WithStatus v s) = verdict_text (rejected v)

-- type and sequence, 0, 0 where none decides
abbrev pub deciding_numbers : Option Deciding → ℕ × ℕ
deciding_numbers None = (0, 0)
deciding_numbers (Some d) = (d.number, d.sequence)

-- those deciding rejection, validation hold and party hold
abbrev pub verdict_numbers : Verdict → List ℕ
verdict_numbers v =
    (deciding_numbers v.rejection).0
    ∷ (deciding_numbers v.rejection).1
    ∷ (deciding_numbers v.validation).0
    ∷ (deciding_numbers v.validation).1
    ∷ (deciding_numbers v.party).0
    ∷ (deciding_numbers v.party).1
    ∷ []

-- the paper's numbers of each case: the refusal's, or the verdict's
unfoldable pub numbers_of : Answer → List ℕ
numbers_of Taken = []
numbers_of (Refused r) = number_of r ∷ []
numbers_of (Judged v) = verdict_numbers v
numbers_of (WithStatus v s) = verdict_numbers v

-- Y on party hold, N not
abbrev pub status_text : Bool → List ℕ
status_text true = bytes ",Y"
status_text false = bytes ",N"

-- what stands behind the numbers of each case: the status, or nothing
unfoldable pub end_of : Answer → List ℕ
end_of Taken = []
end_of (Refused r) = []
end_of (Judged v) = []
end_of (WithStatus v s) = status_text s

-- each number behind a comma
unfoldable pub listed : List ℕ → List ℕ
unfolding numeral
listed [] = []
listed (n ∷ ns) = 44 ∷ (numeral n ++ listed ns)

unfoldable pub printed : Answer → List ℕ
unfolding text_of numbers_of listed end_of
printed a = text_of a ++ (listed (numbers_of a) ++ end_of a)
