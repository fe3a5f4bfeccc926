-- The KELER set's 55 lines, from three tables, and the step that writes one of them (document 01, 'The KELER set').
-- Assumes nothing.
use Rattle.std.specs.Prelude.{ℕ, ◌-◌, not, ◌&&◌, List, [], ◌∷◌, ◌++◌, map, leb, get_or, Option}
use Rattle.meaning.specs.Text.{bytes, word}
use Rattle.meaning.specs.Fields.{within}
use Rattle.meaning.specs.Forms.{is_day, shape_t, shape_r, shape_m}
use Rattle.meaning.specs.Records.{positive, negative}
use Rattle.meaning.specs.Refusals.{first_of}
use Rattle.meaning.specs.declared.Refusal.{Refusal}
use Rattle.meaning.specs.declared.Refusal.TheVariants.{BadField, TooEarly}
use Rattle.meaning.specs.Writing.{written}

-- DELI is the first word of the form of movements
abbrev pub deli : ℕ
deli = 1

abbrev pub corp : ℕ
corp = word (bytes "CORP")

-- type, object, processing
unfoldable pub keler_types : List (List ℕ)
keler_types =
    (1 ∷ 1 ∷ 1 ∷ [])
    ∷ (1 ∷ 2 ∷ 1 ∷ [])
    ∷ (2 ∷ 1 ∷ 1 ∷ [])
    ∷ (2 ∷ 2 ∷ 1 ∷ [])
    ∷ (3 ∷ 1 ∷ 1 ∷ [])
    ∷ (3 ∷ 2 ∷ 1 ∷ [])
    ∷ (4 ∷ 1 ∷ 2 ∷ [])
    ∷ (4 ∷ 2 ∷ 1 ∷ [])
    ∷ (5 ∷ 1 ∷ 2 ∷ [])
    ∷ (5 ∷ 2 ∷ 1 ∷ [])
    ∷ []

-- type, object, sequence, sign, criteria
unfoldable pub keler_rules : List (List ℕ)
keler_rules =
    (1 ∷ 1 ∷ 1 ∷ positive ∷ 64 ∷ [])
    ∷ (1 ∷ 1 ∷ 2 ∷ negative ∷ 72 ∷ [])
    ∷ (1 ∷ 2 ∷ 1 ∷ positive ∷ 64 ∷ [])
    ∷ (2 ∷ 1 ∷ 1 ∷ positive ∷ 130 ∷ [])
    ∷ (2 ∷ 1 ∷ 2 ∷ positive ∷ 128 ∷ [])
    ∷ (2 ∷ 1 ∷ 3 ∷ negative ∷ 136 ∷ [])
    ∷ (2 ∷ 2 ∷ 1 ∷ positive ∷ 128 ∷ [])
    ∷ (3 ∷ 1 ∷ 1 ∷ positive ∷ 256 ∷ [])
    ∷ (3 ∷ 2 ∷ 1 ∷ positive ∷ 256 ∷ [])
    ∷ (4 ∷ 1 ∷ 1 ∷ positive ∷ 128 ∷ [])
    ∷ (4 ∷ 2 ∷ 1 ∷ positive ∷ 128 ∷ [])
    ∷ (5 ∷ 1 ∷ 1 ∷ positive ∷ 128 ∷ [])
    ∷ (5 ∷ 2 ∷ 1 ∷ positive ∷ 128 ∷ [])
    ∷ []

-- type, object, sequence, then of the ten values movement, transaction, and the codes of party, account and security
abbrev pub row : ℕ → ℕ → ℕ → ℕ → ℕ → ℕ → ℕ → ℕ → List ℕ
row type object sequence movement transaction party account security =
    type ∷ object ∷ sequence ∷ 0 ∷ movement ∷ 0 ∷ transaction ∷ 0 ∷ 0 ∷ party ∷ account ∷ security ∷ 0 ∷ []

unfoldable pub keler_rows : List (List ℕ)
keler_rows =
    row 1 1 1 0 0 101 0 0
    ∷ row 1 1 1 0 0 102 0 0
    ∷ row 1 1 1 0 0 103 0 0
    ∷ row 1 1 2 0 corp 101 0 0
    ∷ row 1 1 2 0 corp 102 0 0
    ∷ row 1 2 1 0 0 101 0 0
    ∷ row 1 2 1 0 0 102 0 0
    ∷ row 1 2 1 0 0 103 0 0
    ∷ row 2 1 1 deli 0 0 201 0
    ∷ row 2 1 2 0 0 0 202 0
    ∷ row 2 1 2 0 0 0 203 0
    ∷ row 2 1 2 0 0 0 204 0
    ∷ row 2 1 2 0 0 0 205 0
    ∷ row 2 1 3 0 corp 0 201 0
    ∷ row 2 1 3 0 corp 0 202 0
    ∷ row 2 1 3 0 corp 0 203 0
    ∷ row 2 1 3 0 corp 0 204 0
    ∷ row 2 2 1 0 0 0 201 0
    ∷ row 2 2 1 0 0 0 202 0
    ∷ row 2 2 1 0 0 0 203 0
    ∷ row 2 2 1 0 0 0 204 0
    ∷ row 2 2 1 0 0 0 205 0
    ∷ row 3 1 1 0 0 0 0 301
    ∷ row 3 1 1 0 0 0 0 302
    ∷ row 3 2 1 0 0 0 0 301
    ∷ row 3 2 1 0 0 0 0 302
    ∷ row 4 1 1 0 0 0 402 0
    ∷ row 4 2 1 0 0 0 402 0
    ∷ row 5 1 1 0 0 0 403 0
    ∷ row 5 1 1 0 0 0 404 0
    ∷ row 5 2 1 0 0 0 403 0
    ∷ row 5 2 1 0 0 0 404 0
    ∷ []

-- the set for a csd, a day, a first and a last day: 10 T lines, 13 R lines, 32 M lines
unfoldable pub keler_lines : ℕ → ℕ → ℕ → ℕ → List (List ℕ)
unfolding keler_types keler_rules keler_rows written shape_t shape_r shape_m
keler_lines csd day first last =
    map (λ e. written shape_t (csd ∷ day ∷ (e ++ (first ∷ last ∷ [])))) keler_types
    ++ (map (λ e. written shape_r (csd ∷ day ∷ (e ++ (first ∷ last ∷ [])))) keler_rules
    ++ map (λ e. written shape_m (csd ∷ day ∷ e)) keler_rows)

-- line 1 to 55 of the set
unfoldable pub keler_line : ℕ → ℕ → ℕ → ℕ → ℕ → List ℕ
unfolding keler_lines
keler_line number csd day first last = get_or (keler_lines csd day first last) (number - 1) []

-- why the step that writes a line into so many lent bytes refuses, if it does
unfoldable pub keler_refusal : ℕ → ℕ → ℕ → ℕ → ℕ → ℕ → Option Refusal
keler_refusal number csd day first last space =
    first_of (
    (BadField, not (within 1 55 number && within 1 8 csd && is_day day && is_day first && is_day last && leb first last && leb 80 space))
    ∷ (TooEarly, leb first day)
    ∷ [])
