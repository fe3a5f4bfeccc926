-- Ranges by the numbers read at a place, and the criteria that a row's values fill.
use Rattle.std.proofs.Common.{◌≡◌, ℕ, zero, suc, Bool, true, false, not, ◌&&◌, ◌||◌, eqb, leb, List, [], ◌∷◌, drop, sym, refl, ap, ap₂, ◌∙◌, arith, le-leb, ne_eqb, eq-eqb, eqb-true}
use Rattle.std.specs.Prelude.{Option, Some, None}
use mathlib.Core.Bool.{and-true, and-false, false≢true}
use borrow.Author.Tests.{not-true, not-false}
use Rattle.tables.specs.Bytes.{one, two, three, four, number}
use Rattle.tables.specs.Count.{bit}
use Rattle.tables.proofs.Counts.{cases}
use Rattle.meaning.specs.Fields.{within}
use Rattle.meaning.specs.Forms.{Form, letters, is_word, code, holds, holds_all, optional, up_to, party_type_form, movement_form, payment_form, number_form, transaction_form, currency_form, ten_values}
use Rattle.meaning.specs.Keys.{filled}
use Rattle.meaning.specs.Sound.{days_fit, key_fits, type_fits, rule_fits, period_fits}
use Rattle.records.specs.Said.{type_of, rule_of, period_of}
use Rattle.soundness.specs.Reads.{type_read, rule_read, row_read, period_read, key_holds}
use Rattle.soundness.specs.Alike.{OrNone, filled_in, filled_or_none, one_more}
use Rattle.soundness.specs.Kinds.{fit_at}
use Rattle.soundness.specs.Kind as Kinds
use Rattle.soundness.proofs.Options.{some_none, some_same}

module _ (b : List ℕ) (at : ℕ) where
  pub type_fits_lem : {x o p f l : ℕ} {k d : Bool} → k ≡ key_fits x o → d ≡ days_fit f l → x ≡ number one b at 1
      → o ≡ number one b at 2 → p ≡ number one b at 3 → f ≡ number four b at 4 → l ≡ number four b at 8
      → (k && ((within 1 3 p && not (eqb p 3 && eqb o 2)) && d)) ≡ fit_at b Kinds.Types at
  unfolding fit_at type_fits type_of type_read holds
  type_fits_lem k l m n o p q = rw (k, l, m, n, o, p, q)

  pub key_fits_lem : {x o q : ℕ} {k : Bool} → k ≡ key_fits x o → x ≡ number one b at 1 → o ≡ number one b at 2
      → q ≡ number one b at 3 → (k && within 1 99 q) ≡ key_holds b at
  unfolding key_holds holds
  key_fits_lem f h i j = rw (f, h, i, j)

  pub rule_fits_lem : {x c f l : ℕ} {k d : Bool} → k ≡ key_holds b at → d ≡ days_fit f l → x ≡ number one b at 4
      → c ≡ number two b at 5 → f ≡ number four b at 7 → l ≡ number four b at 11
      → (k && ((within 1 2 x && within 1 1023 c) && d)) ≡ rule_fits (rule_of (rule_read b at))
  unfolding rule_fits rule_of rule_read key_holds holds
  rule_fits_lem j k l m n o = rw (j, k, l, m, n, o)

  pub period_fits_lem : {x n c f l : ℕ} {m d : Bool} → m ≡ holds code c → d ≡ days_fit f l → x ≡ number one b at 1
      → n ≡ number three b at 2 → c ≡ number two b at 5 → f ≡ number four b at 7 → l ≡ number four b at 11
      → ((within 1 3 x && within 1 999999 n) && (m && d)) ≡ fit_at b Kinds.Periods at
  unfolding fit_at period_fits period_of period_read holds
  period_fits_lem j k l m n o p = rw (j, k, l, m, n, o, p)

-- ---- values, empty or as asked

pub or_none_holds : (φ : Form) {x : ℕ} {r : Bool} → OrNone x (λ t. t ≡ holds φ x) r → r ≡ holds (optional φ) x
unfolding holds
or_none_holds φ {x} {r} m =
    cases (eqb x 0) (λ t. rw t (m.empty (eqb-true x 0 t)))
    (λ t. rw t (m.asked (λ e. false≢true (sym t ∙ eq-eqb x 0 e))))

pub word_or_none : (k : ℕ) {x : ℕ} {r : Bool} → OrNone x (λ t. t ≡ is_word k x) r → r ≡ holds (optional (letters k)) x
unfolding holds
word_or_none k m = or_none_holds (letters k) m

-- ---- criteria

filled_cons : (x : ℕ) (v : List ℕ) → filled (x ∷ v) ≡ one_more x (filled v)
filled_cons zero v = omega arith
filled_cons (suc x) v = omega (arith, ap bit (ap not (ne_eqb (suc x) 0 (λ z. omega (arith, z)))))

three_filled : (x y z : ℕ) (v : List ℕ) → filled (x ∷ y ∷ z ∷ v) ≡ one_more x (one_more y (one_more z (filled v)))
three_filled x y z v =
    filled_cons x (y ∷ z ∷ v) ∙ ap (one_more x) (filled_cons y (z ∷ v) ∙ ap (one_more y) (filled_cons z v))

four_filled : (x y z u : ℕ) → filled (x ∷ y ∷ z ∷ u ∷ []) ≡ one_more x (one_more y (one_more z (one_more u 0)))
four_filled x y z u =
    three_filled x y z (u ∷ []) ∙ ap (λ n. one_more x (one_more y (one_more z n))) (filled_cons u [])

up_to_or_none : (m x : ℕ) → leb x m ≡ (eqb x 0 || within 1 m x)
up_to_or_none m zero = le-leb 0 m (omega arith)
up_to_or_none m (suc x) = rw (ne_eqb (suc x) 0 (λ z. omega (arith, z)), le-leb 1 (suc x) (omega arith))

up_fits : (m x : ℕ) → leb x m ≡ holds (optional (up_to m)) x
unfolding holds
up_fits m x = up_to_or_none m x

party_fits : (x : ℕ) → leb x 3 ≡ holds (optional party_type_form) x
unfolding holds
party_fits x = up_to_or_none 3 x

movement_fits : (x : ℕ) → leb x 2 ≡ holds (optional movement_form) x
unfolding holds
movement_fits x = up_to_or_none 2 x

payment_fits : (x : ℕ) → leb x 2 ≡ holds (optional payment_form) x
unfolding holds
payment_fits x = up_to_or_none 2 x

and_four : (p q r s : Bool) → (p && (q && (r && (s && true)))) ≡ ((p && (q && r)) && s)
and_four true true true s = and-true s
and_four true true false s = refl
and_four true false r s = refl
and_four false q r s = refl

-- what is known where the values have criteria, and where they have none

module _ (φs : List Form) (v : List ℕ) (o : Option ℕ) (e : o ≡ filled_in φs v) where
  in_none : o ≡ None → holds_all φs v ≡ false
  unfolding filled_in
  in_none f = cases (holds_all φs v) (λ t. absurd (some_none (sym (rw t at e) ∙ f))) (λ t. t)

  in_some : (n : ℕ) → o ≡ Some n → (holds_all φs v ≡ true) × (n ≡ filled v)
  unfolding filled_in
  in_some n f =
      cases (holds_all φs v) (λ t. (t, some_same (sym f ∙ rw t at e)))
      (λ t. absurd (some_none (sym f ∙ rw t at e)))

-- three values in front
front_three : (φ ψ χ : Form) (φs : List Form) (x y z : ℕ) (v : List ℕ) → holds_all φs v ≡ true
    → holds_all (φ ∷ ψ ∷ χ ∷ φs) (x ∷ y ∷ z ∷ v) ≡ (holds φ x && (holds ψ y && holds χ z))
unfolding holds_all
front_three φ ψ χ φs x y z v h = rw (h, and-true (holds χ z))

module _ (b : List ℕ) (at : ℕ) where
  abbrev values : List ℕ
  values = (row_read b at).values

  -- codes and currency

  module _ {x y z u : ℕ} {p q r s : Bool} (hp : p ≡ holds (optional code) x) (hq : q ≡ holds (optional code) y) (hr : r ≡ holds (optional code) z) (hs : s ≡ holds (optional currency_form) u) (ex : x ≡ number two b at 17) (ey : y ≡ number two b at 19) (ez : z ≡ number two b at 21) (eu : u ≡ number three b at 23) where
    codes_each : holds_all (drop 6 ten_values) (drop 6 values) ≡ (p && (q && (r && (s && true))))
    unfolding holds_all row_read
    codes_each = rw (hp, hq, hr, hs, ex, ey, ez, eu)

    codes_hold : holds_all (drop 6 ten_values) (drop 6 values) ≡ ((p && (q && r)) && s)
    codes_hold = codes_each ∙ and_four p q r s

    pub codes_unfit : not ((p && (q && r)) && s) ≡ true → None ≡ filled_in (drop 6 ten_values) (drop 6 values)
    unfolding filled_in
    codes_unfit t = rw (codes_hold, not-true ((p && (q && r)) && s) t)

    codes_sum : {k l m n : ℕ} → k ≡ one_more u 0 → l ≡ one_more z k → m ≡ one_more y l → n ≡ one_more x m
        → n ≡ filled (drop 6 values)
    unfolding row_read
    codes_sum ek el em en =
        rw (en, em, el, ek, ex, ey, ez, eu)
        (sym (four_filled (number two b at 17) (number two b at 19) (number two b at 21) (number three b at 23)))

    pub codes_filled : {k l m n : ℕ} → not ((p && (q && r)) && s) ≡ false → k ≡ one_more u 0 → l ≡ one_more z k
        → m ≡ one_more y l → n ≡ one_more x m → Some n ≡ filled_in (drop 6 ten_values) (drop 6 values)
    unfolding filled_in
    codes_filled t ek el em en =
        rw (codes_hold, not-false ((p && (q && r)) && s) t) (ap Some (codes_sum ek el em en))

  -- transaction, security and account in front of them

  module _ {o : Option ℕ} (eo : o ≡ filled_in (drop 6 ten_values) (drop 6 values)) where
    names_fail : o ≡ None → holds_all (drop 3 ten_values) (drop 3 values) ≡ false
    unfolding holds_all row_read
    names_fail f = rw (in_none (drop 6 ten_values) (drop 6 values) o eo f, and-false, and-false, and-false)

    pub names_none : o ≡ None → None ≡ filled_in (drop 3 ten_values) (drop 3 values)
    unfolding filled_in
    names_none f = rw (names_fail f)

    module _ {c x y z : ℕ} {p : Bool} (ec : o ≡ Some c) (hp : p ≡ holds (optional transaction_form) x) (ex : x ≡ number four b at 7) (ey : y ≡ number three b at 11) (ez : z ≡ number three b at 14) where
      names_each : holds_all (drop 3 ten_values) (drop 3 values) ≡ (holds (optional transaction_form) (number four b at 7) && (holds (optional number_form) (number three b at 11) && holds (optional number_form) (number three b at 14)))
      unfolding row_read
      names_each =
          front_three (optional transaction_form) (optional number_form) (optional number_form) (drop 6 ten_values) (number four b at 7) (number three b at 11) (number three b at 14) (drop 6 values)
          (in_some (drop 6 ten_values) (drop 6 values) o eo c ec).0

      names_said : (p && (leb y 999999 && leb z 999999)) ≡ (holds (optional transaction_form) (number four b at 7) && (holds (optional number_form) (number three b at 11) && holds (optional number_form) (number three b at 14)))
      names_said =
          rw (hp, ex, ey, ez)
          (ap₂ (λ s t. holds (optional transaction_form) (number four b at 7) && (s && t)) (up_fits 999999 (number three b at 11)) (up_fits 999999 (number three b at 14)))

      names_hold : holds_all (drop 3 ten_values) (drop 3 values) ≡ (p && (leb y 999999 && leb z 999999))
      names_hold = names_each ∙ sym names_said

      pub names_unfit : not (p && (leb y 999999 && leb z 999999)) ≡ true
          → None ≡ filled_in (drop 3 ten_values) (drop 3 values)
      unfolding filled_in
      names_unfit t = rw (names_hold, not-true (p && (leb y 999999 && leb z 999999)) t)

      names_sum : {k l n : ℕ} → k ≡ one_more z c → l ≡ one_more y k → n ≡ one_more x l → n ≡ filled (drop 3 values)
      unfolding row_read
      names_sum ek el en =
          rw (en, el, ek, (in_some (drop 6 ten_values) (drop 6 values) o eo c ec).1, ex, ey, ez)
          (sym (three_filled (number four b at 7) (number three b at 11) (number three b at 14) (drop 6 values)))

      pub names_filled : {k l n : ℕ} → not (p && (leb y 999999 && leb z 999999)) ≡ false → k ≡ one_more z c
          → l ≡ one_more y k → n ≡ one_more x l → Some n ≡ filled_in (drop 3 ten_values) (drop 3 values)
      unfolding filled_in
      names_filled t ek el en =
          rw (names_hold, not-false (p && (leb y 999999 && leb z 999999)) t) (ap Some (names_sum ek el en))

  -- party type, movement and payment in front of those

  module _ {o : Option ℕ} (eo : o ≡ filled_in (drop 3 ten_values) (drop 3 values)) where
    all_fail : o ≡ None → holds_all ten_values values ≡ false
    unfolding holds_all row_read
    all_fail f = rw (in_none (drop 3 ten_values) (drop 3 values) o eo f, and-false, and-false, and-false)

    pub all_none : o ≡ None → None ≡ filled_or_none values
    unfolding filled_or_none
    all_none f = rw (all_fail f)

    module _ {c x y z : ℕ} (ec : o ≡ Some c) (ex : x ≡ number one b at 4) (ey : y ≡ number one b at 5) (ez : z ≡ number one b at 6) where
      all_each : holds_all ten_values values ≡ (holds (optional party_type_form) (number one b at 4) && (holds (optional movement_form) (number one b at 5) && holds (optional payment_form) (number one b at 6)))
      unfolding row_read
      all_each =
          front_three (optional party_type_form) (optional movement_form) (optional payment_form) (drop 3 ten_values) (number one b at 4) (number one b at 5) (number one b at 6) (drop 3 values)
          (in_some (drop 3 ten_values) (drop 3 values) o eo c ec).0

      all_said : (leb x 3 && (leb y 2 && leb z 2)) ≡ (holds (optional party_type_form) (number one b at 4) && (holds (optional movement_form) (number one b at 5) && holds (optional payment_form) (number one b at 6)))
      all_said =
          rw (ex, ey, ez)
          (ap₂ ◌&&◌ (party_fits (number one b at 4)) (ap₂ ◌&&◌ (movement_fits (number one b at 5)) (payment_fits (number one b at 6))))

      all_hold : holds_all ten_values values ≡ (leb x 3 && (leb y 2 && leb z 2))
      all_hold = all_each ∙ sym all_said

      unfit_said : not (leb x 3 && (leb y 2 && leb z 2)) ≡ true → None ≡ filled_or_none values
      unfolding filled_or_none
      unfit_said t = rw (all_hold, not-true (leb x 3 && (leb y 2 && leb z 2)) t)

      all_sum : {k l n : ℕ} → k ≡ one_more z c → l ≡ one_more y k → n ≡ one_more x l → n ≡ filled values
      unfolding row_read
      all_sum ek el en =
          rw (en, el, ek, (in_some (drop 3 ten_values) (drop 3 values) o eo c ec).1, ex, ey, ez)
          (sym (three_filled (number one b at 4) (number one b at 5) (number one b at 6) (drop 3 values)))

      filled_said : {k l n : ℕ} → not (leb x 3 && (leb y 2 && leb z 2)) ≡ false → k ≡ one_more z c
          → l ≡ one_more y k → n ≡ one_more x l → Some n ≡ filled_or_none values
      unfolding filled_or_none
      filled_said t ek el en =
          rw (all_hold, not-false (leb x 3 && (leb y 2 && leb z 2)) t) (ap Some (all_sum ek el en))

  module _ {c x y z x' y' z' : ℕ} {o : Option ℕ} where
    pub all_unfit : not (leb x 3 && (leb y 2 && leb z 2)) ≡ true → x ≡ x' → y ≡ y' → z ≡ z' → x' ≡ number one b at 4
        → y' ≡ number one b at 5 → z' ≡ number one b at 6 → o ≡ Some c
        → o ≡ filled_in (drop 3 ten_values) (drop 3 values) → None ≡ filled_or_none values
    all_unfit t fx fy fz ex ey ez ec eo = unfit_said eo ec (fx ∙ ex) (fy ∙ ey) (fz ∙ ez) t

    pub all_filled : {k l n : ℕ} → n ≡ one_more x l → l ≡ one_more y k → k ≡ one_more z c → o ≡ Some c
        → o ≡ filled_in (drop 3 ten_values) (drop 3 values) → not (leb x 3 && (leb y 2 && leb z 2)) ≡ false → x ≡ x'
        → y ≡ y' → z ≡ z' → x' ≡ number one b at 4 → y' ≡ number one b at 5 → z' ≡ number one b at 6
        → Some n ≡ filled_or_none values
    all_filled en el ek ec eo t fx fy fz ex ey ez = filled_said eo ec (fx ∙ ex) (fy ∙ ey) (fz ∙ ez) t ek el en
