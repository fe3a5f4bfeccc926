-- How a record is known: what passes the test for a key has that key, and a rule has the key of its rows.
use Rattle.std.proofs.Common.{ℕ, ◌/◌, ◌≡◌, refl, sym, ◌∙◌, Bool, true, ◌&&◌, eqb, leb, eqb-true, eq-eqb}
use Rattle.tables.proofs.Counts.{ands}
use Rattle.meaning.specs.Records.{TypeRecord, Rule, Row, Period, Kept}
use Rattle.meaning.specs.Keys.{is_type, is_rule, of_rule, is_row, is_period, is_kept, clash}
use Rattle.meaning.specs.Sound.{fills_rule}
use Rattle.meaning.proofs.SameLists.{same_self, same_numbers}

-- ---- types

abbrev pub type_key : TypeRecord → ℕ × ℕ
type_key t = (t.type, t.object)

abbrev pub type_ask : ℕ × ℕ → TypeRecord → Bool
type_ask κ = is_type κ.0 κ.1

pub type_hit_lem : (κ : ℕ × ℕ) (t : TypeRecord) → type_ask κ t ≡ true → κ ≡ type_key t
unfolding is_type
type_hit_lem κ t e =
    let a : t.type ≡ κ.0 = eqb-true t.type κ.0 (search ands) in
    let b : t.object ≡ κ.1 = eqb-true t.object κ.1 (search ands) in
    λ i. (sym a i, sym b i)

pub type_self : (t : TypeRecord) → type_ask (type_key t) t ≡ true
unfolding is_type
type_self t = rw (eq-eqb t.type t.type refl, eq-eqb t.object t.object refl)

-- ---- kept instructions

pub kept_hit : (reference : ℕ) (k : Kept) → is_kept reference k ≡ true → reference ≡ k.reference
unfolding is_kept
kept_hit reference k e = sym (eqb-true k.reference reference e)

pub kept_self : (k : Kept) → is_kept k.reference k ≡ true
unfolding is_kept
kept_self k = eq-eqb k.reference k.reference refl

-- ---- rules and the rows of a rule, which are known by the same three numbers

key_of : (n o s n' o' s' : ℕ) → (eqb s' s && eqb n' n && eqb o' o) ≡ true → (n ≡ n') × (o ≡ o') × (s ≡ s')
key_of n o s n' o' s' e =
    (sym (eqb-true n' n (search ands)), sym (eqb-true o' o (search ands)), sym (eqb-true s' s (search ands)))

of_it : (n o s n' o' s' : ℕ) → n ≡ n' → o ≡ o' → s ≡ s' → (eqb s' s && eqb n' n && eqb o' o) ≡ true
of_it n o s n' o' s' x y z = rw (eq-eqb s' s (sym z), eq-eqb n' n (sym x), eq-eqb o' o (sym y))

module _ (n o s : ℕ) where
  pub rule_key_lem : (r : Rule) → is_rule n o s r ≡ true → (n ≡ r.type) × (o ≡ r.object) × (s ≡ r.sequence)
  unfolding is_rule
  rule_key_lem r = key_of n o s r.type r.object r.sequence

  pub of_key : (w : Row) → of_rule n o s w ≡ true → (n ≡ w.type) × (o ≡ w.object) × (s ≡ w.sequence)
  unfolding of_rule
  of_key w = key_of n o s w.type w.object w.sequence

  pub is_rule_lem : (r : Rule) → n ≡ r.type → o ≡ r.object → s ≡ r.sequence → is_rule n o s r ≡ true
  unfolding is_rule
  is_rule_lem r = of_it n o s r.type r.object r.sequence

  pub is_of : (w : Row) → n ≡ w.type → o ≡ w.object → s ≡ w.sequence → of_rule n o s w ≡ true
  unfolding of_rule
  is_of w = of_it n o s w.type w.object w.sequence

-- A rule whose criteria a row fills has the row's key.
filled_key : (w : Row) (r : Rule) → fills_rule w r ≡ true
    → (w.type ≡ r.type) × (w.object ≡ r.object) × (w.sequence ≡ r.sequence)
unfolding fills_rule
filled_key w r h = rule_key_lem w.type w.object w.sequence r (search ands)

pub row_of_rule : (n o s : ℕ) (w : Row) (r : Rule) → is_rule n o s r ≡ true → fills_rule w r ≡ true
    → of_rule n o s w ≡ true
row_of_rule n o s w r t h =
    let k = rule_key_lem n o s r t in
    let m = filled_key w r h in
    is_of n o s w (k.0 ∙ sym m.0) (k.1 ∙ sym m.1) (k.2 ∙ sym m.2)

pub rule_of_row : (n o s : ℕ) (w : Row) (r : Rule) → of_rule n o s w ≡ true → fills_rule w r ≡ true
    → is_rule n o s r ≡ true
rule_of_row n o s w r t h =
    let k = of_key n o s w t in
    let m = filled_key w r h in
    is_rule_lem n o s r (k.0 ∙ m.0) (k.1 ∙ m.1) (k.2 ∙ m.2)

abbrev pub rule_key : Rule → ℕ × ℕ × ℕ
rule_key r = (r.type, r.object, r.sequence)

abbrev pub rule_ask : ℕ × ℕ × ℕ → Rule → Bool
rule_ask κ = is_rule κ.0 κ.1 κ.2

pub rule_hit_lem : (κ : ℕ × ℕ × ℕ) (r : Rule) → rule_ask κ r ≡ true → κ ≡ rule_key r
rule_hit_lem κ r e = let k = rule_key_lem κ.0 κ.1 κ.2 r e in λ i. (k.0 i, k.1 i, k.2 i)

pub rule_self : (r : Rule) → rule_ask (rule_key r) r ≡ true
rule_self r = is_rule_lem r.type r.object r.sequence r refl refl refl

-- ---- rows

pub row_key_lem : (a w : Row) → is_row a w ≡ true → a ≡ w
unfolding is_row
row_key_lem a w e =
    let k = of_key a.type a.object a.sequence w (search ands) in
    let v = same_numbers a.values w.values (search ands) in
    λ i. record { type = k.0 i; object = k.1 i; sequence = k.2 i; values = v i }

pub row_self : (w : Row) → is_row w w ≡ true
unfolding is_row
row_self w = rw (is_of w.type w.object w.sequence w refl refl refl, same_self w.values)

-- ---- periods

pub period_key_lem : (κ n o f : ℕ) (p : Period) → is_period κ n o f p ≡ true
    → (κ ≡ p.kind) × (n ≡ p.number) × (o ≡ p.code) × (f ≡ p.first)
unfolding is_period
period_key_lem κ n o f p e = (
  sym (eqb-true p.kind κ (search ands)),
  sym (eqb-true p.number n (search ands)),
  sym (eqb-true p.code o (search ands)),
  sym (eqb-true p.first f (search ands)),
)

-- Periods share a day with each other or not at all.
pub clash_back : (p q : Period) → clash p q ≡ true → clash q p ≡ true
unfolding clash
clash_back p q e =
    let a : eqb q.kind p.kind ≡ true = search ands in
    let b : eqb q.number p.number ≡ true = search ands in
    let c : eqb (q.code / 100) (p.code / 100) ≡ true = search ands in
    let d : leb q.first p.last ≡ true = search ands in
    let f : leb p.first q.last ≡ true = search ands in
    rw (
      turned q.kind p.kind a,
      turned q.number p.number b,
      turned (q.code / 100) (p.code / 100) c,
      d,
      f,
    )
  where
    turned : (m n : ℕ) → eqb m n ≡ true → eqb n m ≡ true
    turned m n e = eq-eqb n m (sym (eqb-true m n e))
