-- Counts and folds over a list of records and over the places of a table. A count knows no order: what the meaning asks
-- of a book is asked by counts, or by a fold that depends on counts alone. Assumes nothing.
use Rattle.std.specs.Prelude.{ℕ, zero, suc, ◌+◌, min, ◌≡◌, Bool, true, false, ◌&&◌, List, [], ◌∷◌, eqb, Option, Some, None}
use Rattle.std.proofs.Math.Bool.{not, cond}
use Rattle.std.proofs.Math.Dec.{ltb}

abbrev pub bit : Bool → ℕ
bit true = 1
bit false = 0

-- the smaller of two numbers, where 0 stands for none
abbrev pub lesser : ℕ → ℕ → ℕ
lesser zero n = n
lesser (suc m) zero = suc m
lesser (suc m) (suc n) = suc (min m n)

-- ---- lists

-- the list with one more, if there is one
abbrev pub or_none : {R : Type 0} → Option R → List R → List R
or_none None l = l
or_none (Some x) l = x ∷ l

module _ {R : Type 0} where
  -- how many of the list pass the test
  unfoldable pub count : (R → Bool) → List R → ℕ
  count p [] = 0
  count p (x ∷ l) = count p l + bit (p x)

  -- whether one of the list passes the test
  unfoldable pub has : (R → Bool) → List R → Bool
  unfolding count
  has p l = ltb 0 (count p l)

  -- whether each of the list passes the test
  unfoldable pub every : (R → Bool) → List R → Bool
  every p [] = true
  every p (x ∷ l) = p x && every p l

  -- those of the list that pass the test
  unfoldable pub keep : (R → Bool) → List R → List R
  keep p [] = []
  keep p (x ∷ l) = cond (p x) (x ∷ keep p l) (keep p l)

  -- the list with g done to each
  unfoldable pub alter : (R → R) → List R → List R
  alter g [] = []
  alter g (x ∷ l) = g x ∷ alter g l

  -- the list without those that pass the test
  unfoldable pub without : (R → Bool) → List R → List R
  unfolding keep
  without p = keep (λ x. not (p x))

  -- the list with g done to those that pass the test
  unfoldable pub change : (R → Bool) → (R → R) → List R → List R
  unfolding alter
  change p g = alter (λ x. cond (p x) (g x) x)

  -- the list with g done to each, without those of which it leaves nothing
  unfoldable pub sift : (R → Option R) → List R → List R
  sift g [] = []
  sift g (x ∷ l) = or_none (g x) (sift g l)

  -- the least number that f gives to one of the list that passes the test; 0 where none does
  unfoldable pub least : (R → ℕ) → (R → Bool) → List R → ℕ
  least f p [] = 0
  least f p (x ∷ l) = lesser (cond (p x) (f x) 0) (least f p l)

  -- the same records, each as often: no test counts differently
  abbrev pub Same : List R → List R → Type 0
  Same l m = (p : R → Bool) → count p l ≡ count p m

-- ---- places

-- at how many places below n p holds
unfoldable pub count_below : (ℕ → Bool) → ℕ → ℕ
count_below p zero = 0
count_below p (suc n) = count_below p n + bit (p n)

-- whether p holds at every place below n
unfoldable pub all_below : (ℕ → Bool) → ℕ → Bool
all_below p zero = true
all_below p (suc n) = all_below p n && p n

-- the last place below n where p holds, d where there is none
unfoldable pub find_below : ℕ → (ℕ → Bool) → ℕ → ℕ
find_below d p zero = d
find_below d p (suc n) = cond (p n) n (find_below d p n)

-- The lone list of a table: at reads a place, csd says whose it is, rec what it says.
module _ {P R : Type 0} (csd : P → ℕ) (rec : P → R) where
  -- what the places below n say that are depository a's
  unfoldable pub lone : ℕ → (ℕ → P) → ℕ → List R
  lone a at zero = []
  lone a at (suc n) = cond (eqb (csd (at n)) a) (rec (at n) ∷ lone a at n) (lone a at n)
