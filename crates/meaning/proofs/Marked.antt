-- Document 01's twelve marked questions, by computation from lines as bytes: one list, one statement. Assumes nothing.
use Rattle.std.proofs.Common.{◌≡◌, refl, ℕ, List, [], ◌∷◌, ◌++◌, map, replicate}
use Rattle.meaning.specs.Text.{bytes}
use Rattle.meaning.specs.Lone.{answers}
use Rattle.meaning.specs.Printing.{printed}
use Rattle.meaning.specs.Keler.{keler_lines}

-- March 2017 whole
unfoldable pub periods : List (List ℕ)
periods =
    bytes "A,1,20170205,P,10,101,20170301,20170331"
    ∷ bytes "A,1,20170205,A,20,201,20170301,20170331"
    ∷ bytes "A,1,20170205,P,12,103,20170301,20170331"
    ∷ bytes "A,1,20170205,A,21,402,20170301,20170331"
    ∷ bytes "A,1,20170205,A,22,403,20170301,20170331"
    ∷ []

unfoldable pub questions : List (List ℕ)
questions =
    bytes "Q,1,20170228,1,2,DELI,FREE,TRAD,EUR,10,25,30"
    ∷ bytes "Q,1,20170301,1,2,DELI,FREE,TRAD,EUR,10,25,30"
    ∷ bytes "Q,1,20170331,1,2,DELI,FREE,TRAD,EUR,10,25,30"
    ∷ bytes "Q,1,20170401,1,2,DELI,FREE,TRAD,EUR,10,25,30"
    ∷ bytes "Q,1,20170315,1,2,DELI,FREE,CORP,EUR,10,25,30"
    ∷ bytes "Q,1,20170315,1,2,DELI,FREE,CORP,EUR,12,25,30"
    ∷ bytes "Q,1,20170315,1,2,DELI,FREE,TRAD,EUR,11,20,30"
    ∷ bytes "Q,1,20170315,1,2,RECE,FREE,TRAD,EUR,11,20,30"
    ∷ bytes "Q,1,20170315,2,2,,,TRAD,EUR,11,20,30"
    ∷ bytes "Q,1,20170315,1,2,DELI,FREE,TRAD,EUR,11,21,30"
    ∷ bytes "Q,1,20170315,1,2,DELI,FREE,TRAD,EUR,11,22,30"
    ∷ bytes "Q,1,20170315,1,2,DELI,FREE,TRAD,EUR,10,21,30"
    ∷ []

unfoldable pub verdicts : List (List ℕ)
verdicts =
    bytes "V,A,0,0,0,0,0,0"
    ∷ bytes "V,R,1,1,0,0,0,0"
    ∷ bytes "V,R,1,1,0,0,0,0"
    ∷ bytes "V,A,0,0,0,0,0,0"
    ∷ bytes "V,A,0,0,0,0,0,0"
    ∷ bytes "V,R,1,1,0,0,0,0"
    ∷ bytes "V,R,2,1,0,0,0,0"
    ∷ bytes "V,A,0,0,0,0,0,0"
    ∷ bytes "V,R,2,1,0,0,0,0"
    ∷ bytes "V,A,0,0,4,1,0,0"
    ∷ bytes "V,A,0,0,5,1,0,0"
    ∷ bytes "V,R,1,1,0,0,0,0"
    ∷ []

-- The KELER set as csd 1, the attribute periods, the questions.
pub marked_questions : map printed (answers (keler_lines 1 20170205 20170206 20991231 ++ (periods ++ questions))) ≡ replicate 60 (bytes "K") ++ verdicts
unfolding periods questions verdicts keler_lines answers printed
marked_questions = refl
