-- A record in its range, of a depository, fits the widths of its place, so that it reads back once stored
-- (`tables/proofs/Stored`).
use Prim.Native.Nat.{ℕ, ◌/◌, ◌≤◌, ◌<◌}
use mathlib.Core.Path.{◌≡◌, ap, ◌∙◌}
use mathlib.Core.Bool.{true}
use native.Mathlib.Omega.{arith}
use lib.Dec.{eqb}
use lib.ListN.{length, get_or}
use borrow.Author.Tests.{eqb-true, leb-true}
use Rattle.tables.specs.Bytes.{Hold}
use Rattle.tables.proofs.Counts.{cases, ands}
use Rattle.meaning.specs.Records as M
use Rattle.meaning.specs.Fields.{within}
use Rattle.meaning.specs.Forms.{Form, holds, holds_all, up_to, day, code, letters, optional, ten_values, nine_forms, reference_form}
use Rattle.meaning.specs.Sound.{days_fit, key_fits, type_fits, rule_fits, row_fits, period_fits, nine_of, kept_fits}
use Rattle.places.specs.Layout.{type_widths, rule_widths, row_widths, period_widths, instruction_widths, type_numbers, rule_numbers, row_numbers, period_numbers, instruction_numbers}
use Rattle.places.specs.declared.RestrictionType.{RestrictionType}
use Rattle.places.specs.declared.Rule.{Rule}
use Rattle.places.specs.declared.Row.{Row}
use Rattle.places.specs.declared.Period.{Period}
use Rattle.places.specs.declared.Kept.{Kept}
use Rattle.memory.proofs.Remembering.{Bytes}
use Rattle.places.proofs.TenValues.{ten}
use Rattle.records.specs.Said.{type_of, rule_of, row_of, period_of, instruction_of}

pub most : (m n : ℕ) → within 1 m n ≡ true → n ≤ m
most m n e = leb-true n m (search ands)

pub day_most : (n : ℕ) → holds day n ≡ true → n < 21000000
unfolding holds
day_most n e = omega (arith, leb-true (n / 10000) 2099 (search ands))

code_most : (n : ℕ) → holds code n ≡ true → n < 10000
unfolding holds
code_most n e = omega (arith, leb-true (n / 100) 99 (search ands))

transaction_most : (n : ℕ) → holds (letters 4) n ≡ true → n < 4294967296
unfolding holds
transaction_most n e = omega (arith, eqb-true (n / 256 / 256 / 256 / 256) 0 (search ands))

currency_most : (n : ℕ) → holds (letters 3) n ≡ true → n < 16777216
unfolding holds
currency_most n e = omega (arith, eqb-true (n / 256 / 256 / 256) 0 (search ands))

-- an empty value is 0
or_empty : (φ : Form) (n k : ℕ) → 0 < k → (holds φ n ≡ true → n < k) → holds (optional φ) n ≡ true → n < k
unfolding holds
or_empty φ n k p h e =
    cases (eqb n 0) (λ z. omega (arith, eqb-true n 0 z)) (λ z. h (rw z at e))

or_most : (m n : ℕ) → holds (optional (up_to m)) n ≡ true → n ≤ m
unfolding holds
or_most m n e = cases (eqb n 0) (λ z. omega (arith, eqb-true n 0 z)) (λ z. most m n (rw z at e))

infixr 4 ◌also◌
◌also◌ : {A B : Type 0} → A → B → A × B
a also b = (a, b)

pub type_hold : (r : RestrictionType) → r.csd ≤ 8 → type_fits (type_of r) ≡ true → Hold type_widths (type_numbers r)
unfolding type_fits key_fits days_fit type_of holds
type_hold r c e =
    omega arith
    also omega (arith, most 99 r.number (search ands))
    also omega (arith, most 2 r.object (search ands))
    also omega (arith, most 3 r.processing (search ands))
    also omega (arith, day_most r.first (search ands))
    also omega (arith, day_most r.last (search ands))
    also tt

pub rule_hold : (r : Rule) → r.csd ≤ 8 → rule_fits (rule_of r) ≡ true → Hold rule_widths (rule_numbers r)
unfolding rule_fits key_fits days_fit rule_of holds
rule_hold r c e =
    omega arith
    also omega (arith, most 99 r.number (search ands))
    also omega (arith, most 2 r.object (search ands))
    also omega (arith, most 99 r.sequence (search ands))
    also omega (arith, most 2 r.sign (search ands))
    also omega (arith, most 1023 r.criteria (search ands))
    also omega (arith, day_most r.first (search ands))
    also omega (arith, day_most r.last (search ands))
    also tt

pub row_hold : (r : Row) → r.csd ≤ 8 → length r.values ≡ 10 → row_fits (row_of r) ≡ true
    → Hold row_widths (row_numbers r)
unfolding row_fits key_fits row_of holds holds_all
row_hold r c len e =
    let f : holds_all ten_values r.values ≡ true = search ands in
    let g = ap (holds_all ten_values) (ten r.values len) ∙ f in
    omega arith
    also omega (arith, most 99 r.number (search ands))
    also omega (arith, most 2 r.object (search ands))
    also omega (arith, most 99 r.sequence (search ands))
    also omega (arith, or_most 3 (get_or r.values 0 0) (search ands))
    also omega (arith, or_most 2 (get_or r.values 1 0) (search ands))
    also omega (arith, or_most 2 (get_or r.values 2 0) (search ands))
    also or_empty (letters 4) (get_or r.values 3 0) 4294967296 (omega arith) (transaction_most (get_or r.values 3 0)) (search ands)
    also omega (arith, or_most 999999 (get_or r.values 4 0) (search ands))
    also omega (arith, or_most 999999 (get_or r.values 5 0) (search ands))
    also omega (arith, or_empty code (get_or r.values 6 0) 10000 (omega arith) (code_most (get_or r.values 6 0)) (search ands depth 14))
    also omega (arith, or_empty code (get_or r.values 7 0) 10000 (omega arith) (code_most (get_or r.values 7 0)) (search ands depth 14))
    also omega (arith, or_empty code (get_or r.values 8 0) 10000 (omega arith) (code_most (get_or r.values 8 0)) (search ands depth 14))
    also or_empty (letters 3) (get_or r.values 9 0) 16777216 (omega arith) (currency_most (get_or r.values 9 0)) (search ands depth 14)
    also tt

pub period_hold : (r : Period) → r.csd ≤ 8 → period_fits (period_of r) ≡ true → Hold period_widths (period_numbers r)
unfolding period_fits days_fit period_of holds
period_hold r c e =
    omega arith
    also omega (arith, most 3 r.kind (search ands))
    also omega (arith, most 999999 r.number (search ands))
    also omega (arith, code_most r.code (search ands))
    also omega (arith, day_most r.first (search ands))
    also omega (arith, day_most r.last (search ands))
    also tt

-- a number that is a day or none
or_day : (n : ℕ) → holds (optional day) n ≡ true → n < 21000000
or_day n = or_empty day n 21000000 (omega arith) (day_most n)

reference_most : (n : ℕ) → holds reference_form n ≡ true → n ≤ 9999
unfolding holds
reference_most n e = most 9999 n e

-- the nine fields from object to security
nine_most : (k : M.Kept) → holds_all nine_forms (nine_of k) ≡ true
    → (k.object < 256) × (k.party_type < 256) × (k.movement < 256) × (k.payment < 256) × (k.transaction < 4294967296)
    × (k.currency < 16777216) × (k.party < 16777216) × (k.account < 16777216) × (k.security < 16777216)
unfolding holds holds_all
nine_most k e = (
  omega (arith, most 2 k.object (search ands)),
  omega (arith, most 3 k.party_type (search ands)),
  omega (arith, or_most 2 k.movement (search ands)),
  omega (arith, or_most 2 k.payment (search ands)),
  or_empty (letters 4) k.transaction 4294967296 (omega arith) (transaction_most k.transaction) (search ands),
  or_empty (letters 3) k.currency 16777216 (omega arith) (currency_most k.currency) (search ands),
  omega (arith, most 999999 k.party (search ands depth 14)),
  omega (arith, most 999999 k.account (search ands depth 14)),
  omega (arith, most 999999 k.security (search ands depth 14)),
)

pub instruction_hold : (r : Kept) → r.csd ≤ 8 → Bytes r.remembered → kept_fits (instruction_of r) ≡ true
    → Hold instruction_widths (instruction_numbers r)
unfolding kept_fits instruction_of holds_all
instruction_hold r c m e =
    let f : holds_all nine_forms (nine_of (instruction_of r)) ≡ true = search ands in
    let reference : holds reference_form r.reference ≡ true = search ands in
    let validating : holds (optional day) r.validating ≡ true = search ands in
    let holding : holds (optional day) r.holding ≡ true = search ands in
    let nine = nine_most (instruction_of r) f in
    omega arith
    also omega (arith, reference_most r.reference reference)
    also nine.0
    also nine.1
    also nine.2
    also nine.3
    also nine.4
    also nine.5
    also nine.6
    also nine.7
    also nine.8
    also omega (arith, or_day r.validating validating)
    also omega (arith, or_day r.holding holding)
    also m 0
    also m 1
    also m 2
    also m 3
    also m 4
    also m 5
    also m 6
    also m 7
    also m 8
    also m 9
    also m 10
    also m 11
    also m 12
    also tt
