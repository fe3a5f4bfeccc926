-- A sound lone book as facts, list by list, and back; books with the same records are sound alike.
use Rattle.std.proofs.Common.{ℕ, ◌/◌, ◌≤◌, ◌≡◌, ap, sym, ◌∙◌, Bool, true, ◌&&◌, List, arith, leb, ltb, length, eq-eqb, leb-true, le-leb, ltb-true, ltb-false}
use Rattle.tables.specs.Count.{count, has, every}
use Rattle.tables.proofs.Counts.{both, ands, agree, cases}
use Rattle.tables.proofs.Lists.{some_of, every_both, every_map, count_under}
use Rattle.tables.proofs.Limits.{limit_all}
use Rattle.meaning.specs.Records.{TypeRecord, Rule, Row, Period, Book, type_quota, rule_quota, row_quota, period_quota}
use Rattle.meaning.specs.Keys.{is_type, is_rule, is_row, is_period, clash}
use Rattle.meaning.specs.Sound.{days_fit, type_fits, rule_fits, row_fits, period_fits, good_type, good_rule, fills_rule, good_row, good_period, quotas, sound_lone}
use Rattle.meaning.specs.SameBook.{SameBook}
use Rattle.meaning.proofs.Listed.{Kind, Listed, listed, listed_same, refer_same}
use Rattle.meaning.proofs.Keys.{type_key, type_ask, type_hit_lem, type_self, rule_key, rule_ask, rule_hit_lem, rule_self, row_key_lem, row_self, period_key_lem, clash_back}

-- ---- the four kinds of records

-- alike are those of one key: ask κ tests for the key κ
abbrev pub keyed : {R K : Type 0} → ℕ → (R → Bool) → (ask : K → R → Bool) (key : R → K)
    → ((κ : K) (x : R) → ask κ x ≡ true → κ ≡ key x) → ((x : R) → ask (key x) x ≡ true) → Kind R
keyed quota fits ask key hit self = record {
  quota = quota;
  fits = fits;
  alike = λ x. ask (key x);
  back = λ x y e. ap (λ κ. ask κ x) (sym (hit (key x) y e)) ∙ self x;
}

abbrev pub type_kind : Kind TypeRecord
type_kind = keyed type_quota type_fits type_ask type_key type_hit_lem type_self

abbrev pub rule_kind : Kind Rule
rule_kind = keyed rule_quota rule_fits rule_ask rule_key rule_hit_lem rule_self

abbrev pub row_kind : Kind Row
row_kind = keyed row_quota row_fits is_row (λ w. w) row_key_lem row_self

-- two periods of one kind, number and attribute share no day
abbrev pub period_kind : Kind Period
period_kind = record { quota = period_quota; fits = period_fits; alike = clash; back = clash_back }

-- ---- the facts

abbrev pub its_type : Rule → TypeRecord → Bool
its_type r = is_type r.type r.object

-- every rule has its type
abbrev pub Typed : List TypeRecord → List Rule → Type 0
Typed ts rs = every (λ r. has (its_type r) ts) rs ≡ true

-- every row has its rule with that rule's criteria filled
abbrev pub Ruled : List Rule → List Row → Type 0
Ruled rs ws = every (λ w. has (fills_rule w) rs) ws ≡ true

pub record Lists (b : Book) : Type 0 where
  pub types : Listed type_kind b.types
  pub rules : Listed rule_kind b.rules
  pub rows : Listed row_kind b.rows
  pub periods : Listed period_kind b.periods
  pub typed : Typed b.types b.rules
  pub ruled : Ruled b.rules b.rows

-- the lists, and what users ask of them: ranges, and that a key is held once
pub record Good (b : Book) : Type 0 where
  pub lists : Lists b
  pub types_fit : every type_fits b.types ≡ true
  pub rules_fit : every rule_fits b.rules ≡ true
  pub rows_fit : every row_fits b.rows ≡ true
  pub periods_fit : every period_fits b.periods ≡ true
  pub type_once : (type object : ℕ) → count (is_type type object) b.types ≤ 1
  pub rule_once : (type object sequence : ℕ) → count (is_rule type object sequence) b.rules ≤ 1
  pub row_once : (w : Row) → count (is_row w) b.rows ≤ 1

pub good_lists : (b : Book) → Lists b → Good b
good_lists b l = record {
  lists = l;
  types_fit = l.types.fit;
  rules_fit = l.rules.fit;
  rows_fit = l.rows.fit;
  periods_fit = l.periods.fit;
  type_once = λ n o. limit_all type_ask type_key type_hit_lem 1 b.types l.types.once (n, o);
  rule_once = λ n o s. limit_all rule_ask rule_key rule_hit_lem 1 b.rules l.rules.once (n, o, s);
  row_once = limit_all is_row (λ w. w) row_key_lem 1 b.rows l.rows.once;
}

-- ---- both ways

lists_of_sound : (b : Book) → sound_lone b ≡ true → Lists b
unfolding sound_lone quotas good_type good_rule good_row good_period
lists_of_sound b e =
    let types : every (good_type b) b.types ≡ true = search ands in
    let rules : every (good_rule b) b.rules ≡ true = search ands in
    let rows : every (good_row b) b.rows ≡ true = search ands in
    let periods : every (good_period b) b.periods ≡ true = search ands in
    record {
      types = listed type_kind (good_type b) b.types (search ands) types (λ x h. search ands) (λ x h. search ands);
      rules = listed rule_kind (good_rule b) b.rules (search ands) rules (λ x h. search ands) (λ x h. search ands);
      rows = listed row_kind (good_row b) b.rows (search ands) rows (λ x h. search ands) (λ x h. search ands);
      periods = listed period_kind (good_period b) b.periods (search ands) periods (λ x h. search ands) (λ x h. search ands);
      typed = every_map (good_rule b) _ b.rules rules (λ x h. search ands);
      ruled = every_map (good_row b) _ b.rows rows (λ x h. search ands);
    }

sound_of_lists : (b : Book) → Lists b → sound_lone b ≡ true
unfolding sound_lone quotas good_type good_rule good_row good_period
sound_of_lists b l =
    rw (
      le-leb (length b.types) type_quota l.types.few,
      le-leb (length b.rules) rule_quota l.rules.few,
      le-leb (length b.rows) row_quota l.rows.few,
      le-leb (length b.periods) period_quota l.periods.few,
      every_both type_fits _ b.types l.types.fit l.types.once,
      every_both rule_fits _ b.rules l.rules.fit (every_both _ _ b.rules l.rules.once l.typed),
      every_both row_fits _ b.rows l.rows.fit (every_both _ _ b.rows l.rows.once l.ruled),
      every_both period_fits _ b.periods l.periods.fit l.periods.once,
    )

pub good_of_sound : (b : Book) → sound_lone b ≡ true → Good b
good_of_sound b e = good_lists b (lists_of_sound b e)

pub sound_of_good : (b : Book) → Good b → sound_lone b ≡ true
sound_of_good b g = sound_of_lists b g.lists

-- ---- books with the same records

lists_same : (b c : Book) → SameBook b c → Lists b → Lists c
lists_same b c s l =
    record {
      types = listed_same l.types c.types s.types;
      rules = listed_same l.rules c.rules s.rules;
      rows = listed_same l.rows c.rows s.rows;
      periods = listed_same l.periods c.periods s.periods;
      typed = refer_same its_type b.types c.types b.rules c.rules s.types s.rules l.typed;
      ruled = refer_same fills_rule b.rules c.rules b.rows c.rows s.rules s.rows l.ruled;
    }

same_back : (b c : Book) → SameBook b c → SameBook c b
same_back b c s =
    record {
      types = λ p. sym (s.types p);
      rules = λ p. sym (s.rules p);
      rows = λ p. sym (s.rows p);
      periods = λ p. sym (s.periods p);
    }

pub good_same : (b c : Book) → SameBook b c → Good b → Good c
good_same b c s g = good_lists c (lists_same b c s g.lists)

pub sound_same : (b c : Book) → SameBook b c → sound_lone b ≡ sound_lone c
sound_same b c s =
    agree (sound_lone b) (sound_lone c)
    (λ e. sound_of_lists c (lists_same b c s (lists_of_sound b e)))
    (λ e. sound_of_lists b (lists_same c b (same_back b c s) (lists_of_sound c e)))

-- ---- a period is known by kind, number, code and first day: two of the same would share that day

-- first is not after last
period_days : (p : Period) → period_fits p ≡ true → p.first ≤ p.last
unfolding period_fits days_fit
period_days p e = leb-true p.first p.last (search ands)

same_clash : (κ n o f : ℕ) (p q : Period) → period_fits p ≡ true → period_fits q ≡ true → is_period κ n o f p ≡ true
    → is_period κ n o f q ≡ true → clash p q ≡ true
unfolding clash
same_clash κ n o f p q x y d e =
    let k = period_key_lem κ n o f p d in
    let m = period_key_lem κ n o f q e in
    rw (
      eq-eqb q.kind p.kind (sym m.0 ∙ k.0),
      eq-eqb q.number p.number (sym m.1 ∙ k.1),
      eq-eqb (q.code / 100) (p.code / 100) (ap (λ z. z / 100) (sym m.2 ∙ k.2)),
      le-leb q.first p.last (omega (arith, k.3, m.3, period_days p x)),
      le-leb p.first q.last (omega (arith, k.3, m.3, period_days q y)),
    )

pub period_once : (b : Book) → Good b → (κ n o f : ℕ) → count (is_period κ n o f) b.periods ≤ 1
period_once b g κ n o f =
    cases (ltb 0 (count (is_period κ n o f) b.periods))
    (λ t.
    some_of (λ p. period_fits p && leb (count (clash p) b.periods) 1) (is_period κ n o f) b.periods
    (every_both _ _ b.periods g.periods_fit g.lists.periods.once)
    (ltb-true 0 (count (is_period κ n o f) b.periods) t)
    (λ p h e.
    let q = both (period_fits p) (leb (count (clash p) b.periods) 1) h in
    omega (
      arith,
      leb-true (count (clash p) b.periods) 1 q.1,
      count_under period_fits (is_period κ n o f) (clash p) b.periods g.periods_fit
          (λ x y. same_clash κ n o f p x q.0 y e),
    )))
    (λ t. omega (arith, ltb-false 0 (count (is_period κ n o f) b.periods) t))
