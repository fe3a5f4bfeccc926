-- A row of a table, and what holds of each row: a test computed over the table, or a fact given row by row. These are
-- laws over any list; then what the table of shapes gives of numbers that are read.
use Rattle.std.proofs.Common.{ℕ, ◌≡◌, Bool, true, List, [], ◌∷◌, ◌⊎◌, inl, inr, ⊎_elim, Some, arith}
use Rattle.tables.specs.Count.{every}
use Rattle.tables.proofs.Counts.{cases, both}
use Rattle.meaning.specs.Forms.{Letter, Shape, shapes, first_shape, holds_all}

module _ {R : Type 0} where
  -- x is one of the list
  unfoldable pub In : R → List R → Type 0
  In x [] = ⊥
  In x (y ∷ l) = (x ≡ y) ⊎ In x l

  -- a fact of each of the list
  abbrev pub Each : (R → Type 0) → List R → Type 0
  Each P [] = Unit {0}
  Each P (x ∷ l) = P x × Each P l

  pub every_row : (p : R → Bool) (l : List R) (x : R) → every p l ≡ true → In x l → p x ≡ true
  unfolding every In
  every_row p [] x e i = absurd i
  every_row p (y ∷ l) x e i =
      let b = both (p y) (every p l) e in
      ⊎_elim (λ z. rw z b.0) (λ j. every_row p l x b.1 j) i

  pub each_row : (P : R → Type 0) (l : List R) (x : R) → Each P l → In x l → P x
  unfolding In
  each_row P [] x e i = absurd i
  each_row P (y ∷ l) x e i = ⊎_elim (λ z. rw z e.0) (λ j. each_row P l x e.1 j) i

-- ---- the table of shapes

pub first_found : (p : Shape → Bool) (l : List Shape) (s : Shape) → first_shape p l ≡ Some s → (p s ≡ true) × In s l
unfolding first_shape In
first_found p [] s e = absurd (let z : ◌≡◌ {A = ℕ} 0 1 = cc in omega arith)
first_found p (x ∷ l) s e =
    cases (p x)
    (λ t. let f = rw t at e in let z : s ≡ x = cc in (rw z t, inl z))
    (λ t. let r = first_found p l s (rw t at e) in (r.0, inr r.1))

-- The numbers of a line of that letter: each in the range of its form, by a row of the table.
pub record Ranged (l : Letter) (v : List ℕ) : Type 0 where
  pub row : Shape
  pub listed : In row shapes
  pub letter : row.letter ≡ l
  pub held : holds_all row.forms v ≡ true

-- A fact of numbers in their forms' ranges, by cases over the rows: `(fact of the first row, (of the second, .. tt))`.
pub by_rows : (P : Letter → List ℕ → Type 0) {l : Letter} {v : List ℕ} → Each (λ s. holds_all s.forms v ≡ true → P s.letter v) shapes → Ranged l v → P l v
by_rows P {v = v} e r =
    rw (← r.letter) (each_row (λ s. holds_all s.forms v ≡ true → P s.letter v) shapes r.row e r.listed r.held)
