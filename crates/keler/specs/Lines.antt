-- The lines of the KELER set, one by one (document 01, 'The KELER set'). Assumes nothing.
use Rattle.std.specs.Prelude.{ℕ, List, [], ◌∷◌, ◌++◌, get_or}
use Rattle.meaning.specs.Forms.{shape_t, shape_r, shape_m}
use Rattle.meaning.specs.Writing.{written}
use Rattle.meaning.specs.Keler.{keler_types, keler_rules, keler_rows}

unfoldable pub type_line : ℕ → ℕ → ℕ → ℕ → ℕ → List ℕ
type_line n csd day first last = written shape_t (csd ∷ day ∷ (get_or keler_types n [] ++ (first ∷ last ∷ [])))

unfoldable pub rule_line : ℕ → ℕ → ℕ → ℕ → ℕ → List ℕ
rule_line n csd day first last = written shape_r (csd ∷ day ∷ (get_or keler_rules n [] ++ (first ∷ last ∷ [])))

unfoldable pub row_line : ℕ → ℕ → ℕ → List ℕ
row_line n csd day = written shape_m (csd ∷ day ∷ get_or keler_rows n [])
