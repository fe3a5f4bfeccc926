-- 'Exactly the records': two books have the same records (SameBook) exactly if each record is in both equally often.
-- Stated here, proved in proofs/Exactly. Assumes nothing.
use Rattle.std.specs.Prelude.{ℕ, ◌≡◌, Bool, true, List, [], ◌∷◌}
use Rattle.tables.specs.Count.{count, Same}
use Rattle.meaning.specs.Text.{same}
use Rattle.meaning.specs.Records.{TypeRecord, Rule, Row, Period, Book}
use Rattle.meaning.specs.SameBook.{SameBook}

module _ {R : Type 0} (equal : R → R → Bool) where
  -- the test holds of two records exactly if they are one
  pub record Decides : Type 0 where
    pub one : (x y : R) → equal x y ≡ true → x ≡ y
    pub self : (x : R) → equal x x ≡ true

  -- each record is in both lists equally often
  abbrev pub EquallyOften : List R → List R → Type 0
  EquallyOften l m = (x : R) → count (equal x) l ≡ count (equal x) m

-- Over records of any kind: no test counts two lists differently exactly if each record is in both equally often.
abbrev pub SameOften : Type 0 → Type 0
SameOften R =
    (equal : R → R → Bool) → Decides equal
    → (l m : List R) → (Same l m → EquallyOften equal l m) × (EquallyOften equal l m → Same l m)

-- ---- the four kinds: records are equal where all their numbers are

abbrev pub type_numbers : TypeRecord → List ℕ
type_numbers t = t.type ∷ t.object ∷ t.processing ∷ t.first ∷ t.last ∷ []

abbrev pub rule_numbers : Rule → List ℕ
rule_numbers r = r.type ∷ r.object ∷ r.sequence ∷ r.sign ∷ r.criteria ∷ r.first ∷ r.last ∷ []

abbrev pub row_numbers : Row → List ℕ
row_numbers w = w.type ∷ w.object ∷ w.sequence ∷ w.values

abbrev pub period_numbers : Period → List ℕ
period_numbers p = p.kind ∷ p.number ∷ p.code ∷ p.first ∷ p.last ∷ []

abbrev pub equal_by : {R : Type 0} → (R → List ℕ) → R → R → Bool
equal_by numbers x y = same (numbers x) (numbers y)

abbrev pub equal_types : TypeRecord → TypeRecord → Bool
equal_types = equal_by type_numbers

abbrev pub equal_rules : Rule → Rule → Bool
equal_rules = equal_by rule_numbers

abbrev pub equal_rows : Row → Row → Bool
equal_rows = equal_by row_numbers

abbrev pub equal_periods : Period → Period → Bool
equal_periods = equal_by period_numbers

-- each record of each kind is in both books equally often
pub record EachAsOften (b c : Book) : Type 0 where
  pub types : EquallyOften equal_types b.types c.types
  pub rules : EquallyOften equal_rules b.rules c.rules
  pub rows : EquallyOften equal_rows b.rows c.rows
  pub periods : EquallyOften equal_periods b.periods c.periods

pub record Exactly : Type 0 where
  pub types : Decides equal_types
  pub rules : Decides equal_rules
  pub rows : Decides equal_rows
  pub periods : Decides equal_periods
  -- 'exactly the records' is what SameBook says
  pub exactly : (b c : Book) → (SameBook b c → EachAsOften b c) × (EachAsOften b c → SameBook b c)
