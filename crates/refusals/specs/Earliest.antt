-- The earliest refusal whose condition holds (document 01, 'Refused lines': tested in order, 'the first that holds is
-- the answer'), of any list of conditions, each with its refusal. Assumes nothing.
use Rattle.std.specs.Prelude.{◌≡◌, Bool, true, false, List, ◌∷◌, ◌++◌, Option, Some, None}
use Rattle.tables.specs.Count.{has}
use Rattle.meaning.specs.declared.Refusal.{Refusal}

-- whether a condition of the list holds
unfoldable pub some_holds : List (Refusal × Bool) → Bool
unfolding has
some_holds cs = has (λ c. c.1) cs

-- the refusal of a condition of the list that holds, and none before it does
pub record FirstHolds (cs : List (Refusal × Bool)) (r : Refusal) : Type 0 where
  pub before : List (Refusal × Bool)
  pub after : List (Refusal × Bool)
  pub all : cs ≡ before ++ (r, true) ∷ after
  pub earlier : some_holds before ≡ false

-- such a refusal, or none where no condition holds
pub record Earliest (cs : List (Refusal × Bool)) (o : Option Refusal) : Type 0 where
  pub none : o ≡ None → some_holds cs ≡ false
  pub one : (r : Refusal) → o ≡ Some r → FirstHolds cs r
