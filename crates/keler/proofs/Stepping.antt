-- What the step returns and leaves.
use Prim.Native.Nat.{ℕ, ◌-◌, ◌≤◌, ◌<◌}
use mathlib.Core.Path.{◌≡◌, ap, sym, ◌∙◌}
use mathlib.Core.Bool.{Bool, true, false, ◌&&◌}
use mathlib.Core.List.{List, []}
use native.Mathlib.Omega.{arith}
use lib.Dec.{leb}
use lib.ListN.{length, get_or}
use borrow.Author.Tests.{leb-true, le-leb, lt-leb}
use Rattle.std.specs.Prelude.{Option, Some, None, Ok, Err}
use Rattle.tables.proofs.Counts.{cases, both}
use Rattle.meaning.specs.declared.Refusal.{Refusal}
use Rattle.meaning.specs.declared.Refusal.TheVariants.{BadField, TooEarly}
use Rattle.meaning.specs.Fields.{within}
use Rattle.meaning.specs.Forms.{is_day}
use Rattle.meaning.specs.Keler.{keler_lines, keler_line, keler_refusal}
use Rattle.writing.specs.Written.{written_as}
use Rattle.keler.specs.Step.{admitted, Puts, Steps}
use Rattle.writing.proofs.Texts.{fits}
use Rattle.keler.proofs.Sizes.{sized}

-- ---- the refusal

module _ (number csd day first last space : ℕ) {t : Bool} (a : t ≡ admitted number csd day first last space) where
  pub not_admitted : t ≡ false → Some BadField ≡ keler_refusal number csd day first last space
  unfolding keler_refusal admitted
  not_admitted e = rw (← a, e)

  pub too_early : t ≡ true → first ≤ day → Some TooEarly ≡ keler_refusal number csd day first last space
  unfolding keler_refusal admitted
  too_early e h = rw (← a, e, le-leb first day h)

  pub not_refused : t ≡ true → day < first → None ≡ keler_refusal number csd day first last space
  unfolding keler_refusal admitted
  not_refused e h = rw (← a, e, lt-leb first day h)

-- what holds where nothing is refused
record Admits (number csd day first last space : ℕ) : Type 0 where
  number_low : 1 ≤ number
  number_high : number ≤ 55
  csd_right : within 1 8 csd ≡ true
  day_right : is_day day ≡ true
  first_right : is_day first ≡ true
  last_right : is_day last ≡ true
  room : 80 ≤ space

module _ (number csd day first last space : ℕ) where
  all_right : admitted number csd day first last space ≡ true → Admits number csd day first last space
  unfolding admitted
  all_right e =
      let a = both (within 1 55 number && within 1 8 csd && is_day day && is_day first && is_day last && leb first last) (leb 80 space) e in
      let b = both (within 1 55 number && within 1 8 csd && is_day day && is_day first && is_day last) (leb first last) a.0 in
      let c = both (within 1 55 number && within 1 8 csd && is_day day && is_day first) (is_day last) b.0 in
      let d = both (within 1 55 number && within 1 8 csd && is_day day) (is_day first) c.0 in
      let f = both (within 1 55 number && within 1 8 csd) (is_day day) d.0 in
      let g = both (within 1 55 number) (within 1 8 csd) f.0 in
      let h = both (leb 1 number) (leb number 55) g.0 in
      record {
        number_low = leb-true 1 number h.0;
        number_high = leb-true number 55 h.1;
        csd_right = g.1;
        day_right = f.1;
        first_right = d.1;
        last_right = c.1;
        room = leb-true 80 space a.1;
      }

  admits : keler_refusal number csd day first last space ≡ None → Admits number csd day first last space
  unfolding keler_refusal admitted
  admits r =
      cases (admitted number csd day first last space) all_right
      (λ e. let five : ◌≡◌ {A = Option Refusal} (Some BadField) None = rw e at r in cc)

  -- then the line has 7 to 80 bytes
  line_fits : keler_refusal number csd day first last space ≡ None
      → (6 < length (keler_line number csd day first last)) × (length (keler_line number csd day first last) ≤ 80)
  unfolding keler_line
  line_fits z =
      let a = admits z in
      let low : number - 1 < 55 = omega (arith, a.number_low, a.number_high) in
      sized csd day a.csd_right a.day_right first last a.first_right a.last_right (number - 1) low

  pub numbered : {n : Option Refusal} → n ≡ keler_refusal number csd day first last space → n ≡ None → 1 ≤ number
  numbered a e = (admits (sym a ∙ e)).number_low

-- ---- the result and the bytes

module _ (number csd day first last : ℕ) {n : Option Refusal} (before : List ℕ) (a : n ≡ keler_refusal number csd day first last (length before)) where
  pub refuses : {x : Refusal} → n ≡ Some x → Steps number csd day first last before (Err x) before
  refuses e = record {
    result = rw (← a, e);
    bytes = rw (← a, e);
    long = λ z. (line_fits number csd day first last (length before) z).0;
    short = λ z. (line_fits number csd day first last (length before) z).1;
  }

  -- nothing is refused, and w holds the line
  module _ {w : List ℕ} (e : n ≡ None) (t : w ≡ written_as (get_or (keler_lines csd day first last) (number - 1) [])) where
    few : length (keler_line number csd day first last) ≤ 80
    few = (line_fits number csd day first last (length before) (sym a ∙ e)).1

    whole : w ≡ keler_line number csd day first last
    unfolding keler_line
    whole = t ∙ fits (get_or (keler_lines csd day first last) (number - 1) []) few

    pub ready : length w ≤ length before
    ready = omega (arith, ap length whole, few, (admits number csd day first last (length before) (sym a ∙ e)).room)

    pub steps : {r : ℕ} {after : List ℕ} → Puts w before r after → Steps number csd day first last before (Ok r) after
    steps p = record {
      result = rw (← a, e, ← whole) (ap Ok p.count);
      bytes = rw (← a, e, ← whole) p.bytes;
      long = λ z. (line_fits number csd day first last (length before) z).0;
      short = λ z. (line_fits number csd day first last (length before) z).1;
    }
