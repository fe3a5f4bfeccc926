-- Document 01's desk example, by computation: the whole output of the whole input. Assumes nothing.
use Rattle.std.proofs.Common.{◌≡◌, refl, ℕ, List, [], ◌∷◌, ◌++◌}
use Rattle.meaning.specs.Text.{bytes}
use Rattle.meaning.specs.Lone.{answers, lone_answers}
use Rattle.meaning.specs.Desk.{lines_of, output}

-- lines, each ended by byte 10
unfoldable pub text : List (List ℕ) → List ℕ
text [] = []
text (l ∷ ls) = l ++ (10 ∷ text ls)

unfoldable pub example_input : List ℕ
unfolding text
example_input =
    text
    (bytes "T,2,20170206,9,1,3,20170207,20991231"
    ∷ bytes "R,2,20170206,9,1,5,P,4,20170207,20991231"
    ∷ bytes "M,2,20170206,9,1,5,,,FREE,,,,,,,"
    ∷ bytes "Q,2,20170207,1,2,DELI,FREE,,EUR,11,20,30"
    ∷ bytes "Q,2,20170206,1,2,DELI,FREE,,EUR,11,20,30"
    ∷ bytes "T,2,20170206,9,1,3,20170207,20991231"
    ∷ [])

unfoldable pub example_output : List ℕ
unfolding text
example_output =
    text
    (bytes "K" ∷ bytes "K" ∷ bytes "K" ∷ bytes "V,A,0,0,0,0,9,5" ∷ bytes "V,A,0,0,0,0,0,0" ∷ bytes "F,8" ∷ [])

pub desk_example : output (answers (lines_of example_input)) ≡ example_output
unfolding example_input example_output lines_of answers output
desk_example = refl

-- the same with a line of another depository, noise, in front
pub desk_alone : lone_answers 2 (bytes "Q,3,NOISE" ∷ lines_of example_input) ≡ answers (lines_of example_input)
unfolding example_input lines_of lone_answers
desk_alone = refl
