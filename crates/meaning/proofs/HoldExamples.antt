-- Examples 1 to 6 of source document 004's 'Description of requested change', by computation. Party A is party 11,
-- which has attribute code 101; party B's code is 102. ISIN X is security 30. Type 9 is the party hold, type 8 the
-- validation hold. Assumes nothing.
use Rattle.std.proofs.Common.{◌≡◌, refl, ℕ, List, [], ◌∷◌, ◌++◌, map, replicate}
use Rattle.meaning.specs.Text.{bytes}
use Rattle.meaning.specs.Lone.{answers}
use Rattle.meaning.specs.Printing.{printed}

-- the two types and party A's code
abbrev type_lines : List (List ℕ)
type_lines =
    bytes "T,1,20240101,9,1,3,20240102,20241231"
    ∷ bytes "T,1,20240101,8,1,2,20240102,20241231"
    ∷ bytes "A,1,20240101,P,11,101,20240102,20241231"
    ∷ []

-- Party Hold, rule 1: a delivery by party A
abbrev positive_hold : List (List ℕ)
positive_hold =
    bytes "R,1,20240101,9,1,1,P,66,20240102,20241231" ∷ bytes "M,1,20240101,9,1,1,,DELI,,,,,101,,," ∷ []

abbrev negative_hold : List (List ℕ)
negative_hold =
    bytes "R,1,20240101,9,1,1,N,66,20240102,20241231" ∷ bytes "M,1,20240101,9,1,1,,DELI,,,,,101,,," ∷ []

-- a delivery of ISIN X by party A
abbrev narrow_hold : List (List ℕ)
narrow_hold =
    bytes "R,1,20240101,9,1,1,P,82,20240102,20241231" ∷ bytes "M,1,20240101,9,1,1,,DELI,,,30,,101,,," ∷ []

-- any other positive party hold rule: a delivery
abbrev other_hold : List (List ℕ)
other_hold = bytes "R,1,20240101,9,1,2,P,2,20240102,20241231" ∷ bytes "M,1,20240101,9,1,2,,DELI,,,,,,,," ∷ []

-- CSD Validation Hold, rule 2: ISIN X by party A, or by party B
abbrev validation_of_a : List (List ℕ)
validation_of_a = bytes "R,1,20240101,8,1,2,P,80,20240102,20241231" ∷ bytes "M,1,20240101,8,1,2,,,,,30,,101,,," ∷ []

abbrev validation_of_b : List (List ℕ)
validation_of_b = bytes "R,1,20240101,8,1,2,P,80,20240102,20241231" ∷ bytes "M,1,20240101,8,1,2,,,,,30,,102,,," ∷ []

-- the instruction, with hold indicator and account default
abbrev instruction : List ℕ → List ℕ
instruction wishes = bytes "Q,1,20240102,1,2,DELI,FREE,,EUR,11,20,30," ++ wishes

abbrev taken : ℕ → List (List ℕ)
taken n = replicate n (bytes "K")

-- 1: the indicator N does not undo the rule's hold, whatever the default
pub example_1 : map printed (answers (
    type_lines
    ++ (positive_hold ++ (validation_of_b ++ (instruction (bytes "N,N") ∷ instruction (bytes "N,Y") ∷ [])))
    ))
    ≡ taken 7 ++ (bytes "V,A,0,0,0,0,9,1,Y" ∷ bytes "V,A,0,0,0,0,9,1,Y" ∷ [])
unfolding answers printed
example_1 = refl

-- 2: both holds, even if the default is N
pub example_2 : map printed (answers (type_lines ++ (positive_hold ++ (validation_of_a ++ (instruction (bytes ",N") ∷ [])))))
    ≡ taken 7 ++ (bytes "V,A,0,0,8,2,9,1,Y" ∷ [])
unfolding answers printed
example_2 = refl

-- 3: sent on hold, it is held in spite of the negative rule
pub example_3 : map printed (answers (type_lines ++ (negative_hold ++ (validation_of_a ++ (instruction (bytes "Y,N") ∷ [])))))
    ≡ taken 7 ++ (bytes "V,A,0,0,8,2,0,0,Y" ∷ [])
unfolding answers printed
example_3 = refl

-- 4: the default Y holds it in spite of the negative rule
pub example_4 : map printed (answers (type_lines ++ (negative_hold ++ (instruction (bytes ",Y") ∷ []))))
    ≡ taken 5 ++ (bytes "V,A,0,0,0,0,0,0,Y" ∷ [])
unfolding answers printed
example_4 = refl

-- 5: the negative rule exempts from every positive one, and the validation hold does not count
pub example_5 : map printed (answers (
    type_lines
    ++ (negative_hold ++ (other_hold ++ (validation_of_a ++ (instruction (bytes ",N") ∷ instruction (bytes "N,N") ∷ []))))
    ))
    ≡ taken 9 ++ (bytes "V,A,0,0,8,2,0,0,N" ∷ bytes "V,A,0,0,8,2,0,0,N" ∷ [])
unfolding answers printed
example_5 = refl

-- 6: by the rule, which asks for ISIN X too, and by the default
pub example_6 : map printed (answers (type_lines ++ (narrow_hold ++ (instruction (bytes ",Y") ∷ []))))
    ≡ taken 5 ++ (bytes "V,A,0,0,0,0,9,1,Y" ∷ [])
unfolding answers printed
example_6 = refl
