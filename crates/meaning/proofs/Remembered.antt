-- Lists of type numbers: which numbers a list has that a test left, and that such a list is one of types.
use Rattle.std.proofs.Common.{ℕ, ◌≡◌, refl, ap, sym, ◌∙◌, Bool, true, false, ◌&&◌, ◌||◌, List, [], ◌∷◌, eqb, eqb-true, eq-eqb}
use mathlib.Core.Bool.{and-false}
use Rattle.tables.specs.Count.{keep}
use Rattle.tables.proofs.Counts.{cases, both}
use Rattle.tables.proofs.Lists.{has_cons}
use Rattle.meaning.specs.Pending.{type_numbers, types_which, among, are_types}
use Rattle.meaning.proofs.SameLists.{same_self, same_numbers}

pub among_cons : (m : ℕ) (l : List ℕ) (n : ℕ) → among (m ∷ l) n ≡ (eqb m n || among l n)
unfolding among
among_cons m l n = has_cons (λ m. eqb m n) m l

-- a number is among those that a test left exactly if it was in the list and passes
pub among_keep : (p : ℕ → Bool) (l : List ℕ) (n : ℕ) → among (keep p l) n ≡ (among l n && p n)
unfolding keep among
among_keep p [] n = refl
among_keep p (m ∷ l) n =
    cases (p m)
    (λ e.
    rw (e, among_cons m (keep p l) n, among_cons m l n, among_keep p l n)
    (cases (eqb m n) (λ f. rw (f, ap p (sym (eqb-true m n f)) ∙ e)) (λ f. rw f)))
    (λ e.
    rw (e, among_cons m l n, among_keep p l n)
    (cases (eqb m n) (λ f. rw (f, ap p (sym (eqb-true m n f)) ∙ e, and-false (among l n))) (λ f. rw f)))

-- two tests that agree on the numbers of a list leave the same of it
pub keep_agree : (p q : ℕ → Bool) (l : List ℕ) → ((n : ℕ) → among l n ≡ true → p n ≡ q n) → keep p l ≡ keep q l
unfolding keep
keep_agree p q [] h = refl
keep_agree p q (m ∷ l) h =
    rw (
      h m (among_cons m l m ∙ rw (eq-eqb m m refl) refl),
      keep_agree p q l (λ n e. h n (among_cons m l n ∙ rw e (or_right (eqb m n)))),
    )
  where
    or_right : (a : Bool) → (a || true) ≡ true
    or_right true = refl
    or_right false = refl

-- no number is one of types
pub no_types : are_types [] ≡ true
unfolding are_types types_which type_numbers among
no_types = refl

-- what a test leaves of the type numbers is a list of types
pub which_types : (p : ℕ → Bool) → are_types (types_which p) ≡ true
unfolding are_types types_which
which_types p =
    rw (
      keep_agree (among (keep p type_numbers)) p type_numbers (λ n e. among_keep p type_numbers n ∙ rw e refl),
      same_self (keep p type_numbers),
    )

-- a list of types is what its own test leaves
pub types_which_lem : (l : List ℕ) → are_types l ≡ true → types_which (among l) ≡ l
unfolding are_types
types_which_lem l e = same_numbers (types_which (among l)) l e

-- a test that lets more pass leaves all that was left
pub among_more : (p q : ℕ → Bool) (n : ℕ) → (p n ≡ true → q n ≡ true) → among (types_which p) n ≡ true
    → among (types_which q) n ≡ true
unfolding types_which
among_more p q n h e =
    let b = both (among type_numbers n) (p n) (sym (among_keep p type_numbers n) ∙ e) in
    among_keep q type_numbers n ∙ rw (b.0, h b.1) refl
