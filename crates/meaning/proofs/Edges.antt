-- The edges that document 01 names, by computation. Assumes nothing.
use Rattle.std.proofs.Common.{◌≡◌, refl, ℕ, zero, suc, List, [], ◌∷◌, ◌++◌, map, replicate}
use Rattle.meaning.specs.Text.{bytes}
use Rattle.meaning.specs.Forms.{shape_r}
use Rattle.meaning.specs.Records.{positive}
use Rattle.meaning.specs.Writing.{written}
use Rattle.meaning.specs.Lone.{answers}
use Rattle.meaning.specs.Keler.{keler_lines, keler_line}
use Rattle.meaning.specs.declared.Answer.TheVariants.{Taken, Refused}
use Rattle.meaning.specs.declared.Refusal.TheVariants.{BadLine, NoLetter, FieldCount, BadField, QuotaFull}

-- 0, 80 and 81 bytes
pub line_lengths : answers ([] ∷ replicate 80 65 ∷ replicate 81 65 ∷ []) ≡ Refused BadLine ∷ Refused NoLetter ∷ Refused BadLine ∷ []
unfolding answers
line_lengths = refl

-- no letter of the table, whatever follows; a letter with too few or too many fields; a field outside its form
pub line_shapes : answers (bytes "TT,1,20170205,1,1,1" ∷ bytes "D" ∷ bytes "D,1,20170205,1,1" ∷ bytes "D,1,20170205,1,1,1,1" ∷ bytes "D,9,20170205,1,1,1" ∷ []) ≡ Refused NoLetter ∷ Refused FieldCount ∷ Refused FieldCount ∷ Refused FieldCount ∷ Refused BadField ∷ []
unfolding answers
line_shapes = refl

-- 2016 is leap, 2017 is not
pub leap_days : answers (bytes "T,1,20160228,1,1,1,20160229,20991231" ∷ bytes "T,1,20170228,2,1,1,20170229,20991231" ∷ []) ≡ Taken ∷ Refused BadField ∷ []
unfolding answers
leap_days = refl

-- n rules of type 1, sequences n down to 1
unfoldable pub rules_up_to : ℕ → List (List ℕ)
unfolding written shape_r
rules_up_to zero = []
rules_up_to (suc n) =
    written shape_r (1 ∷ 20170205 ∷ 1 ∷ 1 ∷ suc n ∷ positive ∷ 1 ∷ 20170206 ∷ 20991231 ∷ []) ∷ rules_up_to n

-- the 64th rule and the 65th
pub rule_quota_lem : answers (bytes "T,1,20170205,1,1,1,20170206,20991231" ∷ rules_up_to 65) ≡ replicate 65 Taken ++ (Refused QuotaFull ∷ [])
unfolding answers rules_up_to
rule_quota_lem = refl

-- Every line of the KELER set is taken, for each csd.
pub keler_taken : map (λ csd. answers (keler_lines csd 20170205 20170206 20991231)) (1 ∷ 2 ∷ 3 ∷ 4 ∷ 5 ∷ 6 ∷ 7 ∷ 8 ∷ []) ≡ replicate 8 (replicate 55 Taken)
unfolding answers keler_lines
keler_taken = refl

-- its first and last lines
pub keler_ends : keler_line 1 1 20170205 20170206 20991231 ∷ keler_line 55 1 20170205 20170206 20991231 ∷ [] ≡ bytes "T,1,20170205,1,1,1,20170206,20991231" ∷ bytes "M,1,20170205,5,2,1,,,,,,,,404,," ∷ []
unfolding keler_line
keler_ends = refl
