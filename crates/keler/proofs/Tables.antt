-- The code's constant tables are the meaning's, and what holds of their entries, once over each table.
use Prim.Native.Nat.{ℕ, zero, suc, ◌<◌, ◌≤◌}
use mathlib.Core.Path.{◌≡◌, refl, ap, sym, ◌∙◌}
use mathlib.Core.List.{List, [], ◌∷◌, ◌++◌, map, append-nil}
use native.Mathlib.Omega.{arith}
use lib.ListN.{length, get_or, drop, replicate, get_or-replicate, drop_of_length-le}
use Rattle.meaning.specs.Keler.{keler_types, keler_rules, row, keler_rows}
use Rattle.tables.proofs.Entries.{map_entry}
use Rattle.keler.specs.Tables.{columns, row_number}

-- ---- an entry by its numbers

-- the first n values of f
abbrev values : (ℕ → ℕ) → ℕ → List ℕ
values f zero = []
values f (suc n) = f 0 ∷ values (λ i. f (suc i)) n

-- a list begins with its first n numbers
by_numbers_lem : (l : List ℕ) (n : ℕ) → n ≤ length l → l ≡ values (λ i. get_or l i 0) n ++ drop n l
by_numbers_lem l zero h = refl
by_numbers_lem [] (suc n) h = absurd (omega arith)
by_numbers_lem (x ∷ l) (suc n) h = ap (λ m. x ∷ m) (by_numbers_lem l n (omega arith))

whole : (l : List ℕ) (n : ℕ) → length l ≡ n → l ≡ values (λ i. get_or l i 0) n
whole l n h =
    let none : drop n l ≡ [] = drop_of_length-le l {i = n} (omega arith) in
    by_numbers_lem l n (omega arith) ∙ ap (λ m. values (λ i. get_or l i 0) n ++ m) none ∙ append-nil (values (λ i. get_or l i 0) n)

-- of a table each of whose entries has k numbers
width : (k : ℕ) (t : List (List ℕ)) → map length t ≡ replicate (length t) k → (n : ℕ) → n < length t → length (get_or t n []) ≡ k
width k t e n h = sym (map_entry length t n [] 0 h) ∙ ap (λ l. get_or l n 0) e ∙ get_or-replicate (length t) n k 0 h

-- ---- the rows' columns

-- the numbers of a row that the code's table has
abbrev pub cut : List ℕ → List ℕ
cut e = map (λ j. get_or e j 0) columns

-- every number of the code's rows is that of the meaning's
pub row_column : (n k : ℕ) → n < 32 → k < 8 → get_or (get_or (map cut keler_rows) n []) k 0 ≡ row_number n k
unfolding keler_rows row_number
row_column n k h j =
    ap (λ e. get_or e k 0) (map_entry cut keler_rows n [] [] h) ∙ map_entry (λ i. get_or (get_or keler_rows n []) i 0) columns k 0 0 j

-- ---- entries

types_wide : (n : ℕ) → n < 10 → length (get_or keler_types n []) ≡ 3
unfolding keler_types
types_wide = width 3 keler_types refl

rules_wide : (n : ℕ) → n < 13 → length (get_or keler_rules n []) ≡ 5
unfolding keler_rules
rules_wide = width 5 keler_rules refl

pub type_entry : (n : ℕ) {a b c : ℕ} → a ≡ get_or (get_or keler_types n []) 0 0 → b ≡ get_or (get_or keler_types n []) 1 0
    → c ≡ get_or (get_or keler_types n []) 2 0 → n < 10 → get_or keler_types n [] ≡ a ∷ b ∷ c ∷ []
type_entry n p q r h = rw (p, q, r) (whole (get_or keler_types n []) 3 (types_wide n h))

pub rule_entry : (n : ℕ) {a b c d e : ℕ} → a ≡ get_or (get_or keler_rules n []) 0 0 → b ≡ get_or (get_or keler_rules n []) 1 0
    → c ≡ get_or (get_or keler_rules n []) 2 0 → d ≡ get_or (get_or keler_rules n []) 3 0 → e ≡ get_or (get_or keler_rules n []) 4 0 → n < 13
    → get_or keler_rules n [] ≡ a ∷ b ∷ c ∷ d ∷ e ∷ []
rule_entry n p q r s t h = rw (p, q, r, s, t) (whole (get_or keler_rules n []) 5 (rules_wide n h))

-- the columns that the code's table does not have are empty
pub row_entry : (n : ℕ) → n < 32
    → get_or keler_rows n []
    ≡ row (row_number n 0) (row_number n 1) (row_number n 2) (row_number n 3) (row_number n 4) (row_number n 5) (row_number n 6) (row_number n 7)
unfolding keler_rows row_number
row_entry n h =
    map_entry
    (λ e. row (get_or e 0 0) (get_or e 1 0) (get_or e 2 0) (get_or e 4 0) (get_or e 6 0) (get_or e 9 0) (get_or e 10 0) (get_or e 11 0))
    keler_rows n [] [] h
