-- The lesson (docs/LESSON.md), by computation: its lines as they are typed, and what each depository's lone book
-- answers. Assumes nothing.
-- Written by tools/lesson.py: change that, then run tools/generate.
use Prim.Native.Nat.{ℕ}
use mathlib.Core.Path.{◌≡◌, refl}
use mathlib.Core.List.{List, [], ◌∷◌, map}
use Rattle.meaning.specs.Text.{bytes}
use Rattle.meaning.specs.Lone.{lone_answers}
use Rattle.meaning.specs.Printing.{printed}

-- the lines
unfoldable pub lesson_lines : List (List ℕ)
lesson_lines =
    bytes "T,3,20170206,9,1,3,20170207,20991231"
    ∷ bytes "R,3,20170206,9,1,5,P,4,20170207,20991231"
    ∷ bytes "M,3,20170206,9,1,5,,,FREE,,,,,,,"
    ∷ bytes "R,3,20170206,9,1,7,P,2,20170207,20991231"
    ∷ bytes "M,3,20170206,9,1,7,,DELI,,,,,,,,"
    ∷ bytes "Q,3,20170207,1,2,DELI,FREE,,EUR,11,20,30"
    ∷ bytes "Q,3,20170207,1,2,RECE,FREE,,EUR,11,20,30"
    ∷ bytes "Q,3,20170206,1,2,DELI,FREE,,EUR,11,20,30"
    ∷ bytes "D,3,20170206,9,1,5"
    ∷ bytes "N,3,20170206,9,1,5,,,FREE,,,,,,,"
    ∷ bytes "D,3,20170206,9,1,5"
    ∷ bytes "Q,3,20170207,1,2,DELI,FREE,,EUR,11,20,30"
    ∷ bytes "Q,3,20170207,1,2,RECE,FREE,,EUR,11,20,30"
    ∷ bytes "D,3,20170206,9,1,5"
    ∷ bytes "R,3,20170206,9,1,5,P,4,20170207,20991231"
    ∷ bytes "M,3,20170206,9,1,5,,,FREE,,,,,,,"
    ∷ bytes "Q,3,20170207,1,2,DELI,FREE,,EUR,11,20,30"
    ∷ bytes "O,3,20170206,9,1,5,9"
    ∷ bytes "Q,3,20170207,1,2,DELI,FREE,,EUR,11,20,30"
    ∷ bytes "Q,3,20170207,1,2,RECE,FREE,,EUR,11,20,30"
    ∷ bytes "O,3,20170206,9,1,9,7"
    ∷ bytes "O,3,20170206,9,1,9,9"
    ∷ bytes "Q,4,20170207,1,2,DELI,FREE,,EUR,11,20,30"
    ∷ bytes "E,3,20170207,9,1,20170331"
    ∷ bytes "Q,3,20170331,1,2,DELI,FREE,,EUR,11,20,30"
    ∷ bytes "Q,3,20170401,1,2,DELI,FREE,,EUR,11,20,30"
    ∷ bytes "R,3,20170207,9,1,5,P,4,20170208,20991231"
    ∷ bytes "A,3,20170206,P,11,101,20170207,20991231"
    ∷ bytes "A,3,20170207,P,11,102,20170401,20991231"
    ∷ bytes "Z,3,20170207,P,11,101,20170207,20170331"
    ∷ bytes "A,3,20170207,P,11,102,20170401,20991231"
    ∷ []

-- the answers to depository 3
unfoldable pub answers_to3 : List (List ℕ)
answers_to3 =
    bytes "K"
    ∷ bytes "K"
    ∷ bytes "K"
    ∷ bytes "K"
    ∷ bytes "K"
    ∷ bytes "V,A,0,0,0,0,9,5"
    ∷ bytes "V,A,0,0,0,0,9,5"
    ∷ bytes "V,A,0,0,0,0,0,0"
    ∷ bytes "F,9"
    ∷ bytes "K"
    ∷ bytes "K"
    ∷ bytes "V,A,0,0,0,0,9,7"
    ∷ bytes "V,A,0,0,0,0,0,0"
    ∷ bytes "F,7"
    ∷ bytes "K"
    ∷ bytes "K"
    ∷ bytes "V,A,0,0,0,0,9,5"
    ∷ bytes "K"
    ∷ bytes "V,A,0,0,0,0,9,7"
    ∷ bytes "V,A,0,0,0,0,9,9"
    ∷ bytes "F,8"
    ∷ bytes "F,8"
    ∷ bytes "K"
    ∷ bytes "V,A,0,0,0,0,9,7"
    ∷ bytes "V,A,0,0,0,0,0,0"
    ∷ bytes "F,13"
    ∷ bytes "K"
    ∷ bytes "F,8"
    ∷ bytes "K"
    ∷ bytes "K"
    ∷ []

-- the answers to depository 4
unfoldable pub answers_to4 : List (List ℕ)
answers_to4 =
    bytes "V,A,0,0,0,0,0,0"
    ∷ []

pub lesson_answered : map (λ csd. map printed (lone_answers csd lesson_lines)) (3 ∷ 4 ∷ [])
    ≡ answers_to3 ∷ answers_to4 ∷ []
unfolding lesson_lines answers_to3 answers_to4 lone_answers printed
lesson_answered = refl
