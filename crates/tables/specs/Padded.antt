-- A list in an array of a fixed length. Assumes nothing.
use Rattle.std.specs.Prelude.{ℕ, zero, suc, List, [], ◌∷◌}

-- n numbers: the list's, and zeros after them
unfoldable pub padded : ℕ → List ℕ → List ℕ
padded zero ns = []
padded (suc n) [] = 0 ∷ padded n []
padded (suc n) (x ∷ ns) = x ∷ padded n ns
