-- A record that is taken out of a list and one that is changed in it: what is counted then.
use Prim.Native.Nat.{◌+◌, ◌≤◌}
use mathlib.Core.Path.{◌≡◌, refl, ap, ◌∙◌}
use mathlib.Core.Bool.{Bool, true, false, ◌&&◌, not, cond}
use mathlib.Core.List.{List, [], ◌∷◌}
use native.Mathlib.Omega.{arith}
use Rattle.tables.specs.Count.{bit, count, every, alter, without, Same}
use Rattle.tables.proofs.Counts.{cases, both, count_ext, count_keep, count_alter}

bit_rest : (s t : Bool) → (t ≡ true → s ≡ true) → bit t + bit (s && not t) ≤ bit s
bit_rest s true h = rw (h refl) (omega arith)
bit_rest true false h = omega arith
bit_rest false false h = omega arith

module _ {R : Type 0} where
  -- A test and one that follows from it: the rest that pass only the latter.
  pub count_rest : (p q : R → Bool) (l : List R) → ((x : R) → q x ≡ true → p x ≡ true)
      → count q l + count (λ x. p x && not (q x)) l ≤ count p l
  unfolding count
  count_rest p q [] h = omega arith
  count_rest p q (x ∷ l) h = omega (arith, count_rest p q l h, bit_rest (p x) (q x) (h x))

  -- Among records that each pass t, those that pass q are r.
  module _ (t q : R → Bool) (r : R) (only : (x : R) → t x ≡ true → q x ≡ true → r ≡ x) (p : R → Bool) where
    count_apart : (l : List R) → every t l ≡ true → count p l ≡ count (λ x. not (q x) && p x) l + cond (p r) (count q l) 0
    unfolding count every
    count_apart [] e = cases (p r) (λ z. rw z) (λ z. rw z)
    count_apart (x ∷ l) e =
        let b = both (t x) (every t l) e in
        let i = count_apart l b.1 in
        cases (q x)
        (λ y.
        let s : p r ≡ p x = ap p (only x b.0 y) in
        cases (p x)
        (λ z. rw (y, z, s ∙ z) (omega (arith, rw (s ∙ z) at i)))
        (λ z. rw (y, z, s ∙ z) (omega (arith, rw (s ∙ z) at i))))
        (λ y.
        cases (p r)
        (λ z. rw (y, z) (omega (arith, rw z at i)))
        (λ z. rw (y, z) (omega (arith, rw z at i))))

    -- It is there once, and taken out: it alone is counted no more.
    pub count_out : (l : List R) → every t l ≡ true → count q l ≡ 1 → count p l ≡ count p (without q l) + bit (p r)
    unfolding without
    count_out l e o =
        let i = count_apart l e in
        cases (p r)
        (λ z. rw (count_keep p (λ x. not (q x)) l, z) (omega (arith, rw z at i)))
        (λ z. rw (count_keep p (λ x. not (q x)) l, z) (omega (arith, rw z at i)))

  -- A change that leaves each record as it is.
  pub alter_none : (g : R → R) (l : List R) → ((x : R) → g x ≡ x) → Same (alter g l) l
  alter_none g l h p = count_alter p g l ∙ count_ext (λ x. p (g x)) p l (λ x. ap p (h x))
