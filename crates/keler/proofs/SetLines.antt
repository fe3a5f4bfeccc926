-- What the writer of each kind of line has written is the meaning's line.
use Prim.Native.Nat.{ℕ, ◌+◌, ◌-◌, ◌≤◌, ◌<◌}
use mathlib.Core.Path.{◌≡◌, refl, ap, sym, ◌∙◌}
use mathlib.Core.List.{List, [], ◌∷◌, ◌++◌, map}
use native.Mathlib.Omega.{arith}
use lib.ListN.{length, get_or, length-map, get_or-append, get_or-eq_default}
use lib.Seq.{get_or-append-add}
use Rattle.tables.proofs.Entries.{map_entry}
use Rattle.meaning.specs.Forms.{shape_t, shape_r, shape_m}
use Rattle.meaning.specs.Writing.{written}
use Rattle.meaning.specs.Keler.{keler_types, keler_rules, row, keler_rows, keler_lines}
use Rattle.shapes.specs.declared.Shape.TheVariants.{T, R, M}
use Rattle.shapes.specs.Table.{row_of}
use Rattle.writing.specs.Written.{written_as}
use Rattle.keler.specs.Tables.{row_number}
use Rattle.keler.specs.Lines.{type_line, rule_line, row_line}
use Rattle.keler.proofs.Tables.{type_entry, rule_entry, row_entry}

-- ---- a line of each kind

module _ {r : List ℕ} (n csd day : ℕ) {a b c : ℕ} where
  pub typed : (first last : ℕ) → r ≡ written_as (written (row_of T) (csd ∷ day ∷ a ∷ b ∷ c ∷ first ∷ last ∷ []))
      → c ≡ get_or (get_or keler_types n []) 2 0 → b ≡ get_or (get_or keler_types n []) 1 0 → a ≡ get_or (get_or keler_types n []) 0 0
      → n < 10 → r ≡ written_as (type_line n csd day first last)
  unfolding type_line row_of
  typed first last e z y x h = rw (type_entry n x y z h) e

  pub ruled : {s k : ℕ} (first last : ℕ) → r ≡ written_as (written (row_of R) (csd ∷ day ∷ a ∷ b ∷ c ∷ s ∷ k ∷ first ∷ last ∷ []))
      → k ≡ get_or (get_or keler_rules n []) 4 0 → s ≡ get_or (get_or keler_rules n []) 3 0
      → c ≡ get_or (get_or keler_rules n []) 2 0 → b ≡ get_or (get_or keler_rules n []) 1 0 → a ≡ get_or (get_or keler_rules n []) 0 0
      → n < 13 → r ≡ written_as (rule_line n csd day first last)
  unfolding rule_line row_of
  ruled first last e q p z y x h = rw (rule_entry n x y z p q h) e

  pub rowed : {movement transaction party account security : ℕ}
      → r ≡ written_as (written (row_of M) (csd ∷ day ∷ row a b c movement transaction party account security))
      → security ≡ row_number n 7 → account ≡ row_number n 6 → party ≡ row_number n 5 → transaction ≡ row_number n 4 → movement ≡ row_number n 3
      → c ≡ row_number n 2 → b ≡ row_number n 1 → a ≡ row_number n 0 → n < 32 → r ≡ written_as (row_line n csd day)
  unfolding row_line row_of
  rowed e s q p t m z y x h = rw (row_entry n h, ← x, ← y, ← z, ← m, ← t, ← p, ← q, ← s) e

-- ---- the set

types_many : length keler_types ≡ 10
unfolding keler_types
types_many = refl

rules_many : length keler_rules ≡ 13
unfolding keler_rules
rules_many = refl

rows_many : length keler_rows ≡ 32
unfolding keler_rows
rows_many = refl

-- an entry of two tables one after the other
module _ {A : Type 0} (f : A → List ℕ) (l : List A) (m : List (List ℕ)) where
  in_left : (n : ℕ) (x : A) → n < length l → get_or (map f l ++ m) n [] ≡ f (get_or l n x)
  in_left n x h = get_or-append (map f l) m [] n (rw (length-map l f) h) ∙ map_entry f l n x [] h

  in_right : (n : ℕ) → get_or (map f l ++ m) (length l + n) [] ≡ get_or m n []
  in_right n = rw (← length-map l f) (get_or-append-add (map f l) m n [])

module _ (csd day first last : ℕ) where
  type_of_lem : List ℕ → List ℕ
  type_of_lem e = written shape_t (csd ∷ day ∷ (e ++ (first ∷ last ∷ [])))

  rule_of_lem : List ℕ → List ℕ
  rule_of_lem e = written shape_r (csd ∷ day ∷ (e ++ (first ∷ last ∷ [])))

  row_in : List ℕ → List ℕ
  row_in e = written shape_m (csd ∷ day ∷ e)

  in_three : keler_lines csd day first last ≡ map type_of_lem keler_types ++ (map rule_of_lem keler_rules ++ map row_in keler_rows)
  unfolding keler_lines type_of_lem rule_of_lem row_in
  in_three = refl

  -- past the T lines, and past the R lines too
  after_types : (n j : ℕ) → n ≡ 10 + j → get_or (keler_lines csd day first last) n [] ≡ get_or (map rule_of_lem keler_rules ++ map row_in keler_rows) j []
  after_types n j e = rw (e, in_three, ← types_many) (in_right type_of_lem keler_types (map rule_of_lem keler_rules ++ map row_in keler_rows) j)

  after_rules : (n j : ℕ) → n ≡ 23 + j → get_or (keler_lines csd day first last) n [] ≡ get_or (map row_in keler_rows) j []
  after_rules n j e =
      after_types n (13 + j) (omega arith) ∙ rw (← rules_many) (in_right rule_of_lem keler_rules (map row_in keler_rows) j)

  pub type_line_lem : (n : ℕ) → n < 10 → get_or (keler_lines csd day first last) n [] ≡ type_line n csd day first last
  unfolding type_line type_of_lem
  type_line_lem n h = rw in_three (in_left type_of_lem keler_types (map rule_of_lem keler_rules ++ map row_in keler_rows) n [] (omega (arith, types_many)))

  pub rule_line_lem : (n : ℕ) → 10 ≤ n → n < 23 → get_or (keler_lines csd day first last) n [] ≡ rule_line (n - 10) csd day first last
  unfolding rule_line rule_of_lem
  rule_line_lem n g h =
      after_types n (n - 10) (omega arith) ∙ in_left rule_of_lem keler_rules (map row_in keler_rows) (n - 10) [] (omega (arith, rules_many))

  pub row_line_lem : (n : ℕ) → 23 ≤ n → n < 55 → get_or (keler_lines csd day first last) n [] ≡ row_line (n - 23) csd day
  unfolding row_line row_in
  row_line_lem n g h = after_rules n (n - 23) (omega arith) ∙ map_entry row_in keler_rows (n - 23) [] [] (omega (arith, rows_many))

  no_line : (n : ℕ) → 55 ≤ n → get_or (keler_lines csd day first last) n [] ≡ []
  no_line n h =
      after_rules n (n - 23) (omega arith)
      ∙ get_or-eq_default (map row_in keler_rows) [] {n = n - 23} (rw length-map (omega (arith, rows_many)))

  module _ {r : List ℕ} (n : ℕ) where
    pub a_type : r ≡ written_as (type_line n csd day first last) → n < 10 → r ≡ written_as (get_or (keler_lines csd day first last) n [])
    a_type e h = e ∙ ap written_as (sym (type_line_lem n h))

    pub a_rule : r ≡ written_as (rule_line (n - 10) csd day first last) → n - 10 < 13 → 10 ≤ n → r ≡ written_as (get_or (keler_lines csd day first last) n [])
    a_rule e h g = e ∙ ap written_as (sym (rule_line_lem n g (omega arith)))

    pub a_row : r ≡ written_as (row_line (n - 10 - 13) csd day) → n - 10 - 13 < 32 → 13 ≤ n - 10 → r ≡ written_as (get_or (keler_lines csd day first last) n [])
    a_row e h g =
        let same : n - 10 - 13 ≡ n - 23 = omega arith in
        (rw same at e) ∙ ap written_as (sym (row_line_lem n (omega arith) (omega arith)))

    pub none : r ≡ [] → 32 ≤ n - 10 - 13 → r ≡ written_as (get_or (keler_lines csd day first last) n [])
    none e h = rw (no_line n (omega arith)) e
