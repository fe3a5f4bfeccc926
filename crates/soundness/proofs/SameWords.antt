-- Records that are alike, by the words of their places.
use Rattle.std.proofs.Common.{◌≡◌, ℕ, ◌+◌, ◌/◌, ◌<◌, ◌≤◌, Bool, true, false, ◌&&◌, eqb, leb, List, [], ◌∷◌, ◌++◌, length, sym, refl, ap, ◌∙◌, arith, eq-eqb, ne_eqb, le-leb}
use mathlib.Core.Bool.{and-true, and-false, and_assoc}
use borrow.Author.Tests.{lt-leb}
use Rattle.tables.specs.Bytes.{byte_at, Width, one, two, three, four, number, numbers}
use Rattle.meaning.specs.Keys.{filled, is_type, is_rule, of_rule, is_row, clash}
use Rattle.meaning.specs.Sound.{fills_rule}
use Rattle.meaning.specs.Text.{same}
use Rattle.records.specs.Said.{type_of, rule_of, row_of, period_of}
use Rattle.records.specs.Asks.{type_meets, rule_meets, row_meets, period_meets}
use Rattle.soundness.specs.Reads.{Bytes, type_read, rule_read, row_read, period_read, eight_at, seven_after}
use Rattle.soundness.specs.Alike.{type_alike, rule_alike, row_alike, period_alike, typed_by, ruled_by}
use Rattle.soundness.specs.Buckets.{front_word, middle_word, tail_word}
use Rattle.soundness.specs.Kind as Kinds
use Rattle.soundness.specs.Kinds.{alike_at}
use Rattle.soundness.proofs.WordReads.{word, words_same}

-- ---- the words of a place

abbrev key_widths : List Width
key_widths = one ∷ one ∷ one ∷ []

abbrev pub rule_key_widths : List Width
rule_key_widths = one ∷ one ∷ one ∷ one ∷ []

abbrev pub kind_widths : List Width
kind_widths = one ∷ one ∷ []

abbrev pub front_widths : List Width
front_widths = one ∷ one ∷ one ∷ four ∷ []

abbrev pub middle_widths : List Width
middle_widths = three ∷ three ∷ two ∷ []

abbrev pub tail_widths : List Width
tail_widths = two ∷ two ∷ three ∷ []

module _ (b : List ℕ) (at : ℕ) where
  key_word : number three b at 0 ≡ word key_widths (numbers key_widths b at 0)
  key_word = omega arith

  pub rule_key_word : number four b at 0 ≡ word rule_key_widths (numbers rule_key_widths b at 0)
  rule_key_word = omega arith

  pub kind_word : number two b at 0 ≡ word kind_widths (numbers kind_widths b at 0)
  kind_word = omega arith

  pub front_word_lem : front_word (row_read b at).values ≡ word front_widths (numbers front_widths b at 4)
  unfolding front_word row_read
  front_word_lem = omega arith

  pub middle_word_lem : eight_at b at 11 ≡ word middle_widths (numbers middle_widths b at 11)
  middle_word_lem = omega arith

  pub tail_word_lem : tail_word (row_read b at).values ≡ word tail_widths (numbers tail_widths b at 19)
  unfolding tail_word row_read
  tail_word_lem = omega arith

  -- the lowest byte is not theirs

  pub seven_read : {x : ℕ} (j : ℕ) → Bytes b → x ≡ eight_at b at j → x / 256 ≡ seven_after b at j
  seven_read j h e =
      let s : at + (j + 1 + 1) ≡ at + (j + 2) = omega arith in
      let t : at + (j + 1 + 2) ≡ at + (j + 3) = omega arith in
      rw (s, t) (omega (arith, e, h.each (at + j)))

  pub front_read : {x : ℕ} → x ≡ seven_after b at 3 → x ≡ front_word (row_read b at).values
  unfolding front_word row_read
  front_read e = omega (arith, e)

  pub tail_read : {x : ℕ} → x ≡ seven_after b at 18 → x ≡ tail_word (row_read b at).values
  unfolding tail_word row_read
  tail_read e = omega (arith, e)

  pub middle_read : eight_at b at 11 ≡ middle_word (row_read b at).values
  unfolding middle_word row_read
  middle_read = omega arith

-- ---- tests one after the other

first_no : (p q : Bool) → p ≡ false → false ≡ (p && q)
first_no p q e = sym (ap (λ (t : Bool). t && q) e)

rest_no : (p q : Bool) → false ≡ q → false ≡ (p && q)
rest_no p q e = sym (and-false p) ∙ ap (λ (t : Bool). p && t) e

first_yes : (p q : Bool) → p ≡ true → q ≡ (p && q)
first_yes p q e = sym (ap (λ (t : Bool). t && q) e)

-- ---- types and rules

-- a rule's key as it is told
turned : (c n o q : Bool) → (c && (n && (o && (q && true)))) ≡ (c && (q && n && o))
turned false n o q = refl
turned true false o false = refl
turned true false o true = refl
turned true true false false = refl
turned true true false true = refl
turned true true true false = refl
turned true true true true = refl

module _ (b : List ℕ) (at other : ℕ) where
  -- the two places have the same byte at an offset
  abbrev is : ℕ → Bool
  is k = eqb (byte_at b (other + k)) (byte_at b (at + k))

  -- a rule's key beside the depository
  abbrev named : Bool
  named = is 3 && is 1 && is 2

  module _ {x y : ℕ} (h : Bytes b) where
    key_same : x ≡ number three b other 0 → y ≡ number three b at 0 → eqb x y ≡ (is 0 && (is 1 && is 2))
    key_same e f =
        words_same key_widths b other at 0 x y h (e ∙ key_word b other) (f ∙ key_word b at)
        ∙ ap (λ (t : Bool). is 0 && (is 1 && t)) (and-true (is 2))

    pub type_alike_lem : x ≡ number three b other 0 → y ≡ number three b at 0
        → eqb x y ≡ alike_at b Kinds.Types at other
    unfolding alike_at type_alike type_read type_meets is_type type_of
    type_alike_lem e f = key_same e f

    pub typed_by_lem : x ≡ number three b other 0 → y ≡ number three b at 0
        → eqb x y ≡ typed_by (rule_read b at) (type_read b other)
    unfolding typed_by type_read rule_read type_meets is_type type_of
    typed_by_lem e f = key_same e f

    rule_same : x ≡ number four b other 0 → y ≡ number four b at 0 → eqb x y ≡ (is 0 && named)
    rule_same e f =
        words_same rule_key_widths b other at 0 x y h (e ∙ rule_key_word b other) (f ∙ rule_key_word b at)
        ∙ turned (is 0) (is 1) (is 2) (is 3)

    pub rule_alike_lem : x ≡ number four b other 0 → y ≡ number four b at 0
        → eqb x y ≡ alike_at b Kinds.Rules at other
    unfolding alike_at rule_alike rule_read rule_meets is_rule rule_of
    rule_alike_lem e f = rule_same e f

    -- what else is asked beside a rule's key

    key_no : x ≡ number four b other 0 → y ≡ number four b at 0 → (x ≡ y → ⊥) → (s : Bool)
        → false ≡ (is 0 && (named && s))
    key_no e f n s = first_no (is 0 && named) s (sym (rule_same e f) ∙ ne_eqb x y n) ∙ and_assoc (is 0) named s

    key_yes : x ≡ number four b other 0 → y ≡ number four b at 0 → x ≡ y → (s : Bool) → s ≡ (is 0 && (named && s))
    key_yes e f q s = first_yes (is 0 && named) s (sym (rule_same e f) ∙ eq-eqb x y q) ∙ and_assoc (is 0) named s

    pub not_ruled : x ≡ number four b other 0 → y ≡ number four b at 0 → (x ≡ y → ⊥)
        → false ≡ ruled_by (row_read b at) (rule_read b other)
    unfolding ruled_by row_read rule_read rule_meets fills_rule is_rule rule_of row_of
    not_ruled e f n = key_no e f n (eqb (number two b other 5) (filled (row_read b at).values))

    pub ruled_by_lem : {d c : ℕ} → x ≡ number four b other 0 → y ≡ number four b at 0 → x ≡ y → d ≡ number two b other 5
        → c ≡ filled (row_read b at).values → eqb d c ≡ ruled_by (row_read b at) (rule_read b other)
    unfolding ruled_by row_read rule_read rule_meets fills_rule is_rule rule_of row_of
    ruled_by_lem e f q k l = rw (k, l) (key_yes e f q (eqb (number two b other 5) (filled (row_read b at).values)))

-- ---- rows

same_split : (us us' vs vs' : List ℕ) → length us ≡ length us' → same (us ++ vs) (us' ++ vs') ≡ (same us us' && same vs vs')
same_split [] [] vs vs' e = refl
same_split [] (u ∷ us) vs vs' e = absurd (omega arith)
same_split (u ∷ us) [] vs vs' e = absurd (omega arith)
same_split (u ∷ us) (v ∷ us') vs vs' e =
    ap (λ (t : Bool). eqb u v && t) (same_split us us' vs vs' (omega arith))
    ∙ sym (and_assoc (eqb u v) (same us us') (same vs vs'))

module _ (b : List ℕ) (at other : ℕ) (h : Bytes b) where
  abbrev mine : List ℕ
  mine = (row_read b at).values

  abbrev theirs : List ℕ
  theirs = (row_read b other).values

  -- the numbers of these widths from an offset on are the same
  abbrev part : List Width → ℕ → Bool
  part ws j = same (numbers ws b at j) (numbers ws b other j)

  values_split : same mine theirs ≡ (part front_widths 4 && (part middle_widths 11 && part tail_widths 19))
  unfolding row_read
  values_split =
      same_split (numbers front_widths b at 4) (numbers front_widths b other 4)
      (numbers middle_widths b at 11 ++ numbers tail_widths b at 19) (numbers middle_widths b other 11 ++ numbers tail_widths b other 19) refl
      ∙ ap (λ (t : Bool). part front_widths 4 && t)
      (same_split (numbers middle_widths b at 11) (numbers middle_widths b other 11) (numbers tail_widths b at 19) (numbers tail_widths b other 19) refl)

  module _ {x y : ℕ} where
    front_same : x ≡ seven_after b at 3 → y ≡ seven_after b other 3 → eqb x y ≡ part front_widths 4
    front_same e f =
        words_same front_widths b at other 4 x y h (front_read b at e ∙ front_word_lem b at) (front_read b other f ∙ front_word_lem b other)

    middle_same : x ≡ eight_at b at 11 → y ≡ eight_at b other 11 → eqb x y ≡ part middle_widths 11
    middle_same e f = words_same middle_widths b at other 11 x y h (e ∙ middle_word_lem b at) (f ∙ middle_word_lem b other)

    tail_same : x ≡ seven_after b at 18 → y ≡ seven_after b other 18 → eqb x y ≡ part tail_widths 19
    tail_same e f =
        words_same tail_widths b at other 19 x y h (tail_read b at e ∙ tail_word_lem b at) (tail_read b other f ∙ tail_word_lem b other)

  -- beside the rule's key the values decide
  module _ {x y : ℕ} (mine_key : x ≡ number four b other 0) (their_key : y ≡ number four b at 0) where
    pub row_key_no : (x ≡ y → ⊥) → false ≡ alike_at b Kinds.Rows at other
    unfolding alike_at row_alike row_read row_meets is_row of_rule row_of
    row_key_no n = key_no b at other h mine_key their_key n (same mine theirs)

    row_said : x ≡ y → same mine theirs ≡ alike_at b Kinds.Rows at other
    unfolding alike_at row_alike row_read row_meets is_row of_rule row_of
    row_said q = key_yes b at other h mine_key their_key q (same mine theirs)

    module _ {u v : ℕ} (q : x ≡ y) (mine_front : u ≡ seven_after b at 3) (their_front : v ≡ seven_after b other 3) where
      pub row_front_no : (u ≡ v → ⊥) → false ≡ alike_at b Kinds.Rows at other
      row_front_no n =
          first_no (part front_widths 4) (part middle_widths 11 && part tail_widths 19) (sym (front_same mine_front their_front) ∙ ne_eqb u v n)
          ∙ sym values_split
          ∙ row_said q

      module _ {m k : ℕ} (p : u ≡ v) (mine_middle : m ≡ eight_at b at 11) (their_middle : k ≡ eight_at b other 11) where
        pub row_middle_no : (m ≡ k → ⊥) → false ≡ alike_at b Kinds.Rows at other
        row_middle_no n =
            rest_no (part front_widths 4) (part middle_widths 11 && part tail_widths 19)
            (first_no (part middle_widths 11) (part tail_widths 19) (sym (middle_same mine_middle their_middle) ∙ ne_eqb m k n))
            ∙ sym values_split
            ∙ row_said q

        pub row_alike_lem : {s t : ℕ} → m ≡ k → s ≡ seven_after b at 18 → t ≡ seven_after b other 18
            → eqb s t ≡ alike_at b Kinds.Rows at other
        row_alike_lem {s} {t} o e f =
            tail_same e f
            ∙ first_yes (part middle_widths 11) (part tail_widths 19) (sym (middle_same mine_middle their_middle) ∙ eq-eqb m k o)
            ∙ first_yes (part front_widths 4) (part middle_widths 11 && part tail_widths 19) (sym (front_same mine_front their_front) ∙ eq-eqb u v p)
            ∙ sym values_split
            ∙ row_said q

-- ---- periods

period_turned : (c k n a f l : Bool) → ((c && (k && true)) && (n && (a && (f && l)))) ≡ (c && (k && n && a && f && l))
period_turned false k n a f l = refl
period_turned true false n a f l = refl
period_turned true true false a f l = refl
period_turned true true true false f l = refl
period_turned true true true true false l = refl
period_turned true true true true true l = refl

module _ (b : List ℕ) (at other : ℕ) where
  abbrev same_number : Bool
  same_number = eqb (number three b other 2) (number three b at 2)

  abbrev same_attribute : Bool
  same_attribute = eqb (number two b other 5 / 100) (number two b at 5 / 100)

  abbrev begun : Bool
  begun = leb (number four b other 7) (number four b at 11)

  abbrev ended : Bool
  ended = leb (number four b at 7) (number four b other 11)

  -- what is asked beside the depository and the kind
  abbrev also : Bool
  also = same_number && (same_attribute && (begun && ended))

module _ (b : List ℕ) (at other : ℕ) (h : Bytes b) {x y : ℕ} (e : x ≡ number two b other 0) (f : y ≡ number two b at 0) where
  period_said : (eqb x y && (also b at other)) ≡ alike_at b Kinds.Periods at other
  unfolding alike_at period_alike period_read period_meets clash period_of
  period_said =
      ap (λ (t : Bool). t && (also b at other))
      (words_same kind_widths b other at 0 x y h (e ∙ kind_word b other) (f ∙ kind_word b at))
      ∙ period_turned (is b at other 0) (is b at other 1) (same_number b at other) (same_attribute b at other) (begun b at other) (ended b at other)

  pub period_key_no : (x ≡ y → ⊥) → false ≡ alike_at b Kinds.Periods at other
  period_key_no z =
      first_no (eqb x y) (also b at other) (ne_eqb x y z) ∙ period_said

  pub period_number_no : {n m : ℕ} → n ≡ number three b other 2 → m ≡ number three b at 2 → (n ≡ m → ⊥)
      → false ≡ alike_at b Kinds.Periods at other
  period_number_no {n} {m} i j z =
      rest_no (eqb x y) (also b at other)
      (first_no (same_number b at other) ((same_attribute b at other) && ((begun b at other) && (ended b at other))) (rw (← i, ← j) (ne_eqb n m z)))
      ∙ period_said

  pub period_attribute_no : {n m : ℕ} → n ≡ number two b other 5 → m ≡ number two b at 5 → (n / 100 ≡ m / 100 → ⊥)
      → false ≡ alike_at b Kinds.Periods at other
  period_attribute_no {n} {m} i j z =
      rest_no (eqb x y) (also b at other)
      (rest_no (same_number b at other) ((same_attribute b at other) && ((begun b at other) && (ended b at other)))
      (first_no (same_attribute b at other) ((begun b at other) && (ended b at other)) (rw (← i, ← j) (ne_eqb (n / 100) (m / 100) z))))
      ∙ period_said

  pub period_later : {n m : ℕ} → n ≡ number four b other 7 → m ≡ number four b at 11 → m < n
      → false ≡ alike_at b Kinds.Periods at other
  period_later {n} {m} i j z =
      rest_no (eqb x y) (also b at other)
      (rest_no (same_number b at other) ((same_attribute b at other) && ((begun b at other) && (ended b at other)))
      (rest_no (same_attribute b at other) ((begun b at other) && (ended b at other))
      (first_no (begun b at other) (ended b at other) (rw (← i, ← j) (lt-leb n m z)))))
      ∙ period_said

  pub period_alike_lem : {n m u v p q s t : ℕ} → x ≡ y → n ≡ number three b other 2 → m ≡ number three b at 2 → n ≡ m
      → u ≡ number two b other 5 → v ≡ number two b at 5 → u / 100 ≡ v / 100 → p ≡ number four b other 7
      → q ≡ number four b at 11 → p ≤ q → s ≡ number four b at 7 → t ≡ number four b other 11
      → leb s t ≡ alike_at b Kinds.Periods at other
  period_alike_lem {n} {m} {u} {v} {p} {q} {s} {t} k i j o a c g d l w r z =
      rw (r, z)
      (first_yes (begun b at other) (ended b at other) (rw (← d, ← l) (le-leb p q w))
      ∙ first_yes (same_attribute b at other) ((begun b at other) && (ended b at other)) (rw (← a, ← c) (eq-eqb (u / 100) (v / 100) g))
      ∙ first_yes (same_number b at other) ((same_attribute b at other) && ((begun b at other) && (ended b at other))) (rw (← i, ← j) (eq-eqb n m o))
      ∙ first_yes (eqb x y) (also b at other) (eq-eqb x y k)
      ∙ period_said)
