-- The numbers of a record, and behind them the bytes of its array.
-- Written by tools/places.py: change that, then run tools/generate.
use Rattle.std.proofs.Common.{ℕ, ◌+◌, ◌<◌, ◌≡◌, List, [], ◌∷◌, length, get_or, sym, ap, ◌∙◌, arith}
use Rattle.tables.specs.Bytes.{digits, bytes_of, puts}
use Rattle.places.specs.Layout.{instruction_widths, instruction_numbers}
use Rattle.places.specs.declared.Kept.{Kept}
use Rattle.stores.specs.Numbers.{bytes, all_bytes}
use Rattle.stores.specs.declared.Number.TheVariants.{One, Two, Three, Four}
use Rattle.stores.proofs.Storing.{puts_behind, ones, listed, listed_bytes}

pub instruction_put : (b b0 b1 : List ℕ) (at x0 x3 : ℕ) (r : Kept) → length r.remembered ≡ 13
    → ((i : ℕ) → get_or r.remembered i 0 < 256) → b1 ≡ puts b0 (at + 31) 0 r.remembered
    → b0 ≡ puts b at 0 (all_bytes (One x0 ∷ Two r.reference ∷ One x3 ∷ One r.role ∷ One r.movement ∷ One r.payment ∷ Four r.transaction ∷ Three r.currency ∷ Three r.party ∷ Three r.account ∷ Three r.security ∷ Four r.validating ∷ Four r.holding ∷ []))
    → x0 ≡ r.csd → x3 ≡ r.object → b1 ≡ puts b at 0 (bytes_of instruction_widths (instruction_numbers r))
unfolding bytes all_bytes bytes_of digits ones listed
instruction_put b b0 b1 at x0 x3 r l h e1 e0 h0 h3 =
    let z : 13 ≡ 0 + 13 = omega arith in
    e1 ∙ ap (puts b0 (at + 31) 0) (sym (listed_bytes 13 0 r.remembered (l ∙ z) h))
    ∙ rw (e0, h0, h3) (puts_behind _ (bytes_of (ones 13) (listed 13 0 r.remembered)) b at)
