-- Where two rows' values differ (document 01, 'Records': the same row has the same values). Assumes nothing.
use Rattle.std.specs.Prelude.{ℕ, suc, cond, List, [], ◌∷◌, eqb}

-- the lowest index at which two lists differ; for lists that are the same, their length
unfoldable pub first_difference : List ℕ → List ℕ → ℕ
first_difference [] [] = 0
first_difference [] (y ∷ v) = 0
first_difference (x ∷ u) [] = 0
first_difference (x ∷ u) (y ∷ v) = cond (eqb x y) (suc (first_difference u v)) 0
