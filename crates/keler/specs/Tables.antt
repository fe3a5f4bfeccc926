-- The columns of the KELER rows that are not empty in every row. Assumes nothing.
use Rattle.std.specs.Prelude.{ℕ, List, [], ◌∷◌, get_or}
use Rattle.meaning.specs.Keler.{keler_rows}

-- type, object, sequence, movement, transaction, and the codes of party, account and security: their places among a
-- row's thirteen numbers
abbrev pub columns : List ℕ
columns = 0 ∷ 1 ∷ 2 ∷ 4 ∷ 6 ∷ 9 ∷ 10 ∷ 11 ∷ []

unfoldable pub row_number : ℕ → ℕ → ℕ
row_number n k = get_or (get_or keler_rows n []) (get_or columns k 0) 0
