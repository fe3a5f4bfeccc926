-- When a rule's period leaves its type's, and which line is refused for it.
use Rattle.std.proofs.Common.{ℕ, Some, ◌≡◌, refl, ap, sym, ◌∙◌, Bool, true, false, not, ◌&&◌, List, [], ◌∷◌, arith, leb, ltb, length, ltb-false, le-ltb, leb-true, le-leb}
use mathlib.Core.Bool.{false≢true}
use borrow.Author.Tests.{not-true}
use Rattle.tables.specs.Count.{has, every}
use Rattle.tables.proofs.Counts.{cases, both, neither}
use Rattle.meaning.specs.Forms.{letter_t, letter_e, letter_r, letter_o, letter_d, letter_m, letter_n, letter_a, letter_z, letter_q}
use Rattle.meaning.specs.Records.{Book, Command, command_of, rule_quota}
use Rattle.meaning.specs.Keys.{is_type, is_rule}
use Rattle.meaning.specs.Refusals.{first_of, is_given, outside, type_outside, leaves, conditions, refusal}
use Rattle.meaning.specs.Judging.{covers}
use Rattle.meaning.specs.declared.Refusal.{Refusal}
use Rattle.meaning.specs.declared.Refusal.TheVariants.{TooEarly, NotFound, AlreadyHeld, QuotaFull, LeavesType}
use Rattle.meaning.specs.Within.{LeavesByDays, Thirteen, OnlyR, WhateverTypes, EndsUnderRules}

-- ---- by days

-- a period that holds both ends of another holds all its days
between : (first last first' last' day : ℕ) → outside first first' last' ≡ false → outside last first' last' ≡ false
    → covers first last day ≡ true → covers first' last' day ≡ true
between first last first' last' day e f h =
    let a = neither (ltb first first') (ltb last' first) e in
    let z = neither (ltb last first') (ltb last' last) f in
    let d = both (leb first day) (leb day last) h in
    rw (
      le-leb first' day (omega (arith, ltb-false first first' a.0, leb-true first day d.0)),
      le-leb day last' (omega (arith, ltb-false last' last z.1, leb-true day last d.1)),
    )

-- a day that it holds is not outside it
not_outside : (first last day : ℕ) → covers first last day ≡ true → outside day first last ≡ false
not_outside first last day h =
    let d = both (leb first day) (leb day last) h in
    rw (le-ltb day first (leb-true first day d.0), le-ltb last day (leb-true day last d.1))

pub leaves_by_days : LeavesByDays
unfolding leaves type_outside
leaves_by_days r t e low = record {
  days_held = λ h day.
      let n = neither (outside r.first t.first t.last) (outside r.last t.first t.last) (rw e at h) in
      between r.first r.last t.first t.last day n.0 n.1;
  not_left = λ h.
      let first = h r.first (rw (le-leb r.first r.first (omega arith), le-leb r.first r.last low)) in
      let last = h r.last (rw (le-leb r.first r.last low, le-leb r.last r.last (omega arith))) in
      rw (e, not_outside t.first t.last r.first first, not_outside t.first t.last r.last last);
}

-- ---- 13

-- of the five conditions of R
thirteen_first : (early typed held left full : Bool)
    → is_given LeavesType
    (first_of
    ((TooEarly, early) ∷ (NotFound, not typed) ∷ (AlreadyHeld, held) ∷ (LeavesType, left) ∷ (QuotaFull, full) ∷ []))
    ≡ (not early && typed && not held && left)
thirteen_first true typed held left full = refl
thirteen_first false false held left full = refl
thirteen_first false true true left full = refl
thirteen_first false true false true full = refl
thirteen_first false true false false true = refl
thirteen_first false true false false false = refl

pub thirteen : Thirteen
unfolding refusal
thirteen b day r =
    thirteen_first (leb r.first day) (has (is_type r.type r.object) b.types)
    (has (is_rule r.type r.object r.sequence) b.rules) (has (leaves r) b.types)
    (leb rule_quota (length b.rules))

-- a refusal that no condition has is not given
not_given : (r : Refusal) (cs : List (Refusal × Bool)) → every (λ c. not (is_given r (Some c.0))) cs ≡ true
    → is_given r (first_of cs) ≡ false
unfolding every
not_given r [] h = refl
not_given r (c ∷ cs) h =
    let b = both (not (is_given r (Some c.0))) (every (λ c. not (is_given r (Some c.0))) cs) h in
    cases c.1 (λ t. rw t (not-true (is_given r (Some c.0)) b.0)) (λ t. rw t (not_given r cs b.1))

module _ (b : Book) (k : Command) where
  not_thirteen : every (λ c. not (is_given LeavesType (Some c.0))) (conditions b k) ≡ true
      → refusal b k ≡ Some LeavesType → ⊥
  unfolding refusal
  not_thirteen h e = false≢true (sym (not_given LeavesType (conditions b k) h) ∙ ap (is_given LeavesType) e)

pub only_r : OnlyR
unfolding conditions every command_of
only_r b letter_t v e = absurd (not_thirteen b (command_of letter_t v) refl e)
only_r b letter_e v e = absurd (not_thirteen b (command_of letter_e v) refl e)
only_r b letter_r v e = refl
only_r b letter_o v e = absurd (not_thirteen b (command_of letter_o v) refl e)
only_r b letter_d v e = absurd (not_thirteen b (command_of letter_d v) refl e)
only_r b letter_m v e = absurd (not_thirteen b (command_of letter_m v) refl e)
only_r b letter_n v e = absurd (not_thirteen b (command_of letter_n v) refl e)
only_r b letter_a v e = absurd (not_thirteen b (command_of letter_a v) refl e)
only_r b letter_z v e = absurd (not_thirteen b (command_of letter_z v) refl e)
only_r b letter_q v e = absurd (not_thirteen b (command_of letter_q v) refl e)

pub ends_under_rules : EndsUnderRules
unfolding refusal
ends_under_rules b rules day type object last = refl

pub whatever_types : WhateverTypes
unfolding refusal
whatever_types =
    record { order = λ b types type object sequence new. refl; row = λ b types w. refl }
