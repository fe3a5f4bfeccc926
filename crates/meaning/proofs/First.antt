-- No refusal is given exactly where no condition holds; what is not refused meets no condition, each found by its
-- refusal.
use Rattle.std.proofs.Common.{◌≡◌, refl, ap, sym, Bool, true, false, cond, List, [], ◌∷◌, Option, Some, None, is_some, eqb}
use mathlib.Core.Bool.{false≢true}
use Rattle.tables.proofs.Counts.{cases}
use Rattle.meaning.specs.Records.{Book, Command}
use Rattle.meaning.specs.Refusals.{number_of, first_of, conditions, refusal}
use Rattle.meaning.specs.declared.Refusal.{Refusal}

-- no condition of the list holds
abbrev pub NoneHold : List (Refusal × Bool) → Type 0
NoneHold [] = Unit {0}
NoneHold (c ∷ cs) = (c.1 ≡ false) × NoneHold cs

given_first : {G : Type 0} (r : Refusal) (o : Option Refusal) → cond true (Some r) o ≡ None → G
given_first r o e = absurd (false≢true (sym (ap is_some e)))

pub none_hold : (cs : List (Refusal × Bool)) → first_of cs ≡ None → NoneHold cs
none_hold [] e = tt
none_hold ((r, true) ∷ cs) e = given_first r (first_of cs) e
none_hold ((r, false) ∷ cs) e = (refl, none_hold cs e)

pub none_first : (cs : List (Refusal × Bool)) → NoneHold cs → first_of cs ≡ None
none_first [] h = refl
none_first (c ∷ cs) h = rw h.0 (none_first cs h.1)

-- whether the condition of that refusal holds
abbrev pub condition_of : Refusal → List (Refusal × Bool) → Bool
condition_of r [] = false
condition_of r (c ∷ cs) = cond (eqb (number_of c.0) (number_of r)) c.1 (condition_of r cs)

none_of : (r : Refusal) (cs : List (Refusal × Bool)) → NoneHold cs → condition_of r cs ≡ false
none_of r [] h = refl
none_of r (c ∷ cs) h =
    cases (eqb (number_of c.0) (number_of r)) (λ e. rw e h.0) (λ e. rw e (none_of r cs h.1))

-- Not refused, so the condition of no refusal holds: for any list of conditions.
pub not_refused : (cs : List (Refusal × Bool)) → first_of cs ≡ None → (r : Refusal) → condition_of r cs ≡ false
not_refused cs e r = none_of r cs (none_hold cs e)

-- The same of a command.
pub command_not_refused : (b : Book) (k : Command) → refusal b k ≡ None → (r : Refusal)
    → condition_of r (conditions b k) ≡ false
unfolding refusal
command_not_refused b k = not_refused (conditions b k)
