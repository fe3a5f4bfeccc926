-- A and Z leave the periods good.
use Rattle.std.proofs.Common.{ℕ, ◌/◌, ◌≤◌, ◌<◌, ◌≡◌, true, false, ◌&&◌, ◌∷◌, arith, eqb, leb, ltb, length, leb-true, le-leb, ltb-false}
use Rattle.tables.specs.Count.{has, change}
use Rattle.tables.proofs.Counts.{neither, ands}
use Rattle.meaning.specs.Forms.{holds, day, code, kind_form, number_form}
use Rattle.meaning.specs.Records.{Period, Book, period_quota}
use Rattle.meaning.specs.Keys.{is_period, clash}
use Rattle.meaning.specs.Refusals.{period_outside}
use Rattle.meaning.specs.Edits.{period_until, with_periods}
use Rattle.meaning.specs.Sound.{period_fits}
use Rattle.meaning.proofs.Keys.{clash_back}
use Rattle.meaning.proofs.Listed.{listed_added, listed_changed}
use Rattle.meaning.proofs.Good.{Lists}
use Rattle.meaning.proofs.Changed.{periods_changed}
use Rattle.meaning.proofs.KeptTypes.{days_until}

module _ (κ n o first last : ℕ) where
  period_until_lem : holds day last ≡ true → (p : Period) → is_period κ n o first p ≡ true
      → period_outside κ n o first last p ≡ false → period_fits p ≡ true → period_fits (period_until last p) ≡ true
  unfolding period_fits period_outside
  period_until_lem f p z k h =
      let a : (holds kind_form p.kind && holds number_form p.number) ≡ true = search ands in
      let c : holds code p.code ≡ true = search ands in
      rw (a, c) (days_until p.first p.last last (search ands) f (rw z at k))

  not_longer : (p : Period) → is_period κ n o first p ≡ true → period_outside κ n o first last p ≡ false → last ≤ p.last
  unfolding period_outside
  not_longer p z k =
      ltb-false p.last last (neither (ltb last p.first) (ltb p.last last) (rw z at k)).1

-- a period that is ended shares no day more
clash_until : (last : ℕ) (x y : Period) → last ≤ x.last → clash (period_until last x) y ≡ true → clash x y ≡ true
unfolding clash
clash_until last x y m h =
    let a : eqb y.kind x.kind ≡ true = search ands in
    let b : eqb y.number x.number ≡ true = search ands in
    let c : eqb (y.code / 100) (x.code / 100) ≡ true = search ands in
    let d = leb-true y.first last (search ands) in
    let e : leb x.first y.last ≡ true = search ands in
    rw (a, b, c, le-leb y.first x.last (omega (arith, d, m)), e)

clash_untils : (last : ℕ) (x y : Period) → last ≤ x.last → last ≤ y.last
    → clash (period_until last x) (period_until last y) ≡ true → clash x y ≡ true
clash_untils last x y m n h =
    clash_back y x
    (clash_until last y x n (clash_back x (period_until last y) (clash_until last x (period_until last y) m h)))

module _ (b : Book) (g : Lists b) where
  pub period_added : (p : Period) → period_fits p ≡ true → has (clash p) b.periods ≡ false
      → length b.periods < period_quota → Lists (with_periods (p ∷ b.periods) b)
  period_added p f n room = periods_changed b g (listed_added g.periods p f n room)

  pub period_ended_lem : (κ n o first last : ℕ) → holds day last ≡ true
      → has (period_outside κ n o first last) b.periods ≡ false
      → Lists (with_periods (change (is_period κ n o first) (period_until last) b.periods) b)
  period_ended_lem κ n o first last f e =
      let shorter = not_longer κ n o first last in
      periods_changed b g
      (listed_changed g.periods (is_period κ n o first) (period_outside κ n o first last) (period_until last) e
      (period_until_lem κ n o first last f)
      (λ x y z a c h. clash_until last x y (shorter x z a) h)
      (λ x y z w a c h. clash_untils last x y (shorter x z a) (shorter y w c) h))
