-- The edges that request a) of document 02 names, by computation. Assumes nothing.
use Rattle.std.proofs.Common.{◌≡◌, refl, [], ◌∷◌, ◌++◌, Ok, Err, replicate}
use Rattle.meaning.specs.Text.{bytes}
use Rattle.meaning.specs.Records.{empty}
use Rattle.meaning.specs.Batch.{batch_result, batch_lines, space_after}
use Rattle.meaning.specs.Lone.{told, answers_sent, lone_answers_sent}
use Rattle.meaning.specs.declared.Answer.TheVariants.{Taken, Refused}
use Rattle.meaning.specs.declared.Refusal.TheVariants.{NoLetter, BadField, AlreadyHeld, BatchTooLarge, OtherDepository}
use Rattle.meaning.specs.declared.Sent.TheVariants.{Alone, InBatch}

-- in a batch of depository 2: its own line; one of depository 1; one that is refused 6 when it is sent alone, but 12
-- comes first; one whose processing is wrong, one whose first day is after its last, and 5 comes before 12
pub twelve_after_five :
    answers_sent empty
    (told (InBatch 2)
    (bytes "T,2,20170206,9,1,3,20170207,20991231"
    ∷ bytes "T,1,20170206,9,1,3,20170207,20991231"
    ∷ bytes "T,1,20170206,9,1,3,20170206,20991231"
    ∷ bytes "T,1,20170206,9,1,9,20170207,20991231"
    ∷ bytes "T,1,20170206,9,1,3,20170209,20170208"
    ∷ []))
    ≡ Taken ∷ Refused OtherDepository ∷ Refused OtherDepository ∷ Refused BadField ∷ Refused BadField ∷ []
unfolding answers_sent
twelve_after_five = refl

-- every line of a batch of no depository that passes 5 gets 12; a line with no letter of the table gets 3 in any batch
pub nobodys_batch :
    answers_sent empty (told (InBatch 9) (bytes "T,2,20170206,9,1,3,20170207,20991231" ∷ bytes "X,2" ∷ []))
    ≡ Refused OtherDepository ∷ Refused NoLetter ∷ []
unfolding answers_sent
nobodys_batch = refl

-- a line that names depository 1 in a batch of depository 2 is none of the lines of depository 1
pub counts_among_others :
    lone_answers_sent 1
    ((InBatch 2, bytes "T,1,20170206,9,1,3,20170207,20991231")
    ∷ (Alone, bytes "T,1,20170206,9,1,3,20170207,20991231")
    ∷ (InBatch 1, bytes "T,1,20170206,9,1,3,20170207,20991231")
    ∷ [])
    ≡ Taken ∷ Refused AlreadyHeld ∷ []
unfolding lone_answers_sent
counts_among_others = refl

-- 64 lines, 65, and 64 with a byte too few for their answers; no byte has no line and takes no space
pub batch_sizes :
    batch_result (replicate 64 10) 2048
    ∷ batch_result (replicate 65 10) 4096
    ∷ batch_result (replicate 64 10) 2047
    ∷ batch_result [] 0
    ∷ []
    ≡ Ok 64 ∷ Err BatchTooLarge ∷ Err BatchTooLarge ∷ Ok 0 ∷ []
unfolding batch_result
batch_sizes = refl

-- a batch that is refused 11 stands as no line
pub stands_as_none : batch_lines (bytes "X" ++ (10 ∷ bytes "X")) 63 ≡ []
unfolding batch_lines
stands_as_none = refl

-- two answers in 32 bytes each, zeros behind each, and the bytes behind them as they were
pub two_answers :
    space_after (Taken ∷ Refused OtherDepository ∷ []) (replicate 66 35)
    ≡ bytes "K" ++ replicate 31 0 ++ (bytes "F,12" ++ replicate 28 0) ++ (35 ∷ 35 ∷ [])
unfolding space_after
two_answers = refl
