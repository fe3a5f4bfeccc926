-- `ranges::days_fit` meets its contract: the order of two days is named, so that another is refused for certain.
use Prim.Native.Nat.{ℕ}
use mathlib.Core.Path.{◌≡◌, sym, ◌∙◌}
use mathlib.Core.Bool.{true, false≢true}
use lib.Dec.{leb}
use Rattle.meaning.specs.Forms.{holds, day}
use Rattle.meaning.specs.Sound.{days_fit}
use Rattle.ranges.proofs.days_fit.Goals.{then-is_day, else-is_day}
use Rattle.ranges.proofs.days_fit.Goals as goal

-- of two days the order is asked
ordered : (first last : ℕ) → holds day first ≡ true → holds day last ≡ true → leb first last ≡ days_fit first last
unfolding days_fit
ordered first last e f = rw (e, f)

pub returns-then-is_day-2 : goal.returns-then-is_day-2
unfolding holds
returns-then-is_day-2 c =
    let both = c.if-is_day-2.true in
    let start = c.if-is_day.t-4-true both in
    elim c.if-is_day.branch [
      | then-is_day w ↦
          ordered c.args.first c.args.last (sym c.is_day.ensures ∙ start)
          (sym w.is_day-then-is_day.ensures ∙ sym w.value-is ∙ both)
      | else-is_day w ↦ absurd (false≢true (sym w.if-is_day.false ∙ start))
    ]
