-- In a sound lone book the numbers that are keys are in their ranges.
use Prim.Native.Nat.{ℕ, ◌/◌, ◌<◌}
use mathlib.Core.Path.{◌≡◌}
use mathlib.Core.Bool.{true}
use mathlib.Core.List.{List}
use native.Mathlib.Omega.{arith}
use borrow.Author.Tests.{leb-true}
use Rattle.tables.proofs.Counts.{ands}
use Rattle.tables.proofs.Lone.{every_at}
use Rattle.meaning.specs.Forms.{holds}
use Rattle.meaning.specs.Sound.{key_fits, rule_fits, row_fits, period_fits, sound_lone}
use Rattle.meaning.proofs.Good.{good_of_sound}
use Rattle.places.specs.Layout.{rule_places, row_places, period_places, rule_at, row_at, period_at}
use Rattle.records.specs.Said.{rule_of, row_of, period_of}
use Rattle.book.specs.Lone.{rules_of, rows_of, periods_of, lone_book}

pub record Ranged (a : ℕ) (b : List ℕ) : Type 0 where
  pub periods : (i : ℕ) → i < period_places → (period_at b i).csd ≡ a
      → ((period_at b i).code < 10000) × ((period_at b i).kind < 4)
  pub rows : (i : ℕ) → i < row_places → (row_at b i).csd ≡ a → ((row_at b i).number < 100) × ((row_at b i).sequence < 100)
  pub rules : (i : ℕ) → i < rule_places → (rule_at b i).csd ≡ a
      → ((rule_at b i).number < 100) × ((rule_at b i).sequence < 100) × ((rule_at b i).sign < 3)

pub ranged : (a : ℕ) (b : List ℕ) → sound_lone (lone_book a b) ≡ true → Ranged a b
unfolding periods_of period_of period_fits rows_of row_of row_fits rules_of rule_of rule_fits key_fits holds
ranged a b s =
    let g = good_of_sound (lone_book a b) s in
    record {
      periods = λ i l o.
          let e = every_at (λ p. p.csd) period_of a period_fits (period_at b) period_places g.periods_fit i l o in
          let code = leb-true ((period_at b i).code / 100) 99 (search ands) in
          let kind = leb-true (period_at b i).kind 3 (search ands) in
          (omega arith, omega arith);
      rows = λ i l o.
          let e = every_at (λ w. w.csd) row_of a row_fits (row_at b) row_places g.rows_fit i l o in
          let number = leb-true (row_at b i).number 99 (search ands) in
          let sequence = leb-true (row_at b i).sequence 99 (search ands) in
          (omega arith, omega arith);
      rules = λ i l o.
          let e = every_at (λ r. r.csd) rule_of a rule_fits (rule_at b) rule_places g.rules_fit i l o in
          let number = leb-true (rule_at b i).number 99 (search ands) in
          let sequence = leb-true (rule_at b i).sequence 99 (search ands) in
          let sign = leb-true (rule_at b i).sign 2 (search ands) in
          (omega arith, omega arith, omega arith);
    }
