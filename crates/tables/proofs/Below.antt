-- Laws of the folds over places: one place more, folds over a lone list, and numbers looked through in rising order.
use Prim.Native.Nat.{ℕ, zero, suc, ◌+◌, ◌≤◌, ◌<◌}
use mathlib.Core.Path.{◌≡◌, refl, ap, ap₂, ◌∙◌, sym}
use mathlib.Core.Bool.{Bool, true, false, ◌&&◌, ◌||◌, cond, and-false, or-false}
use native.Mathlib.Numerals.{add-one}
use native.Mathlib.Omega.{arith}
use lib.Dec.{eqb, ltb}
use borrow.Author.Tests.{eq-eqb, ne_eqb, lt-ltb}
use Rattle.tables.specs.Count.{bit, lesser, count_below, has, least, lone}
use Rattle.tables.specs.Below.{any_below, least_below}
use Rattle.tables.proofs.Counts.{cases, cases_eq, bit_none, count_some}
use Rattle.tables.proofs.Lone.{count_lone}

pub any_same : (p q : ℕ → Bool) (n : ℕ) → ((i : ℕ) → i < n → p i ≡ q i) → any_below p n ≡ any_below q n
unfolding any_below
any_same p q zero h = refl
any_same p q (suc n) h = rw (h n (omega arith), any_same p q n (λ i l. h i (omega arith)))

pub any_never : (p : ℕ → Bool) (n : ℕ) → ((i : ℕ) → i < n → p i ≡ false) → any_below p n ≡ false
unfolding any_below
any_never p zero h = refl
any_never p (suc n) h = rw (h n (omega arith), any_never p n (λ i l. h i (omega arith)))

-- q counts only where e holds.
pub any_either : (p q : ℕ → Bool) (e : Bool) (n : ℕ)
    → any_below (λ i. p i || (q i && e)) n ≡ (any_below p n || (any_below q n && e))
unfolding any_below
any_either p q e zero = refl
any_either p q e (suc n) = rw (any_either p q e n) (parted (p n) (q n) (any_below p n) (any_below q n) e)
  where
    parted : (a b c d e : Bool) → ((a || (b && e)) || (c || (d && e))) ≡ ((a || c) || ((b || d) && e))
    parted true b c d e = refl
    parted false true true d true = refl
    parted false true true d false = refl
    parted false true false d true = refl
    parted false true false d false = rw (and-false d)
    parted false false c d e = refl

-- Where p holds at one place below n only, that place tells whether one passes a further test.
pub any_one : (p x : ℕ → Bool) (n i : ℕ) → count_below p n ≤ 1 → i < n → p i ≡ true → any_below (λ j. p j && x j) n ≡ x i
unfolding any_below count_below
any_one p x zero i h l e = absurd (omega arith)
any_one p x (suc n) i h l e =
    cases_eq i n
    (λ s. rw (ap p (sym s) ∙ e, ap x (sym s), any_never (λ j. p j && x j) n (others s)) (or-false (x i)))
    (λ s. rw (other s) (any_one p x n i (omega arith) (omega arith) e))
  where
    others : i ≡ n → (j : ℕ) → j < n → (p j && x j) ≡ false
    others s j b =
        cases (p j) (λ f. absurd (omega (arith, count_some p n j b f, ap bit (ap p (sym s) ∙ e)))) (λ f. rw f)

    other : (i ≡ n → ⊥) → p n ≡ false
    other s = bit_none (p n) (omega (arith, count_some p n i (omega arith) e))

any_count : (p : ℕ → Bool) (n : ℕ) → ltb 0 (count_below p n) ≡ any_below p n
unfolding any_below count_below
any_count p zero = refl
any_count p (suc n) =
    cases (p n)
    (λ e. rw e (lt-ltb 0 (count_below p n + 1) (omega arith)))
    (λ e. let z : count_below p n + 0 ≡ count_below p n = omega arith in rw (e, z) (any_count p n))

pub least_more : (f : ℕ → ℕ) (n : ℕ) → least_below f (n + 1) ≡ lesser (f n) (least_below f n)
unfolding least_below
least_more f n = rw add-one

pub least_same : (f g : ℕ → ℕ) (n : ℕ) → ((i : ℕ) → i < n → f i ≡ g i) → least_below f n ≡ least_below g n
unfolding least_below
least_same f g zero h = refl
least_same f g (suc n) h = rw (h n (omega arith), least_same f g n (λ i l. h i (omega arith)))

-- What a fold over a lone list is, over the places.
module _ {P R : Type 0} (csd : P → ℕ) (rec : P → R) (a : ℕ) (at : ℕ → P) where
  pub has_lone : (p : R → Bool) (n : ℕ)
      → has p (lone csd rec a at n) ≡ any_below (λ i. eqb (csd (at i)) a && p (rec (at i))) n
  unfolding has
  has_lone p n = ap (ltb 0) (count_lone csd rec a p at n) ∙ any_count (λ i. eqb (csd (at i)) a && p (rec (at i))) n

  pub least_lone : (f : R → ℕ) (p : R → Bool) (n : ℕ)
      → least f p (lone csd rec a at n) ≡ least_below (λ i. cond (eqb (csd (at i)) a && p (rec (at i))) (f (rec (at i))) 0) n
  unfolding least lone least_below
  least_lone f p zero = refl
  least_lone f p (suc n) = cases (eqb (csd (at n)) a) (λ e. rw (e, least_lone f p n)) (λ e. rw (e, least_lone f p n))

-- ---- the smaller of two numbers, where 0 stands for none

pub lesser_only : (a b : ℕ) → b ≡ 0 → a ≡ lesser a b
lesser_only zero zero e = refl
lesser_only (suc a) zero e = refl
lesser_only a (suc b) e = absurd (omega arith)

pub lesser_low : (a b : ℕ) → 1 ≤ a → a < b → a ≡ lesser a b
lesser_low zero b h l = absurd (omega arith)
lesser_low (suc a) zero h l = absurd (omega arith)
lesser_low (suc a) (suc b) h l = omega arith

pub lesser_high : (a b : ℕ) → 1 ≤ b → b ≤ a → b ≡ lesser a b
lesser_high zero b h l = absurd (omega arith)
lesser_high (suc a) zero h l = absurd (omega arith)
lesser_high (suc a) (suc b) h l = omega arith

lesser_assoc : (a b d : ℕ) → lesser a (lesser b d) ≡ lesser (lesser a b) d
lesser_assoc zero b d = refl
lesser_assoc (suc a) zero d = refl
lesser_assoc (suc a) (suc b) zero = refl
lesser_assoc (suc a) (suc b) (suc d) = omega arith

lesser_swap : (a b d : ℕ) → lesser a (lesser b d) ≡ lesser b (lesser a d)
lesser_swap zero b d = refl
lesser_swap (suc a) zero d = refl
lesser_swap (suc a) (suc b) zero = omega arith
lesser_swap (suc a) (suc b) (suc d) = omega arith

lesser_self : (a : ℕ) → lesser a a ≡ a
lesser_self zero = refl
lesser_self (suc a) = omega arith

-- ---- numbers looked through in rising order

least_or : (p q : ℕ → Bool) (n : ℕ)
    → least_below (λ i. cond (p i || q i) i 0) n
    ≡ lesser (least_below (λ i. cond (p i) i 0) n) (least_below (λ i. cond (q i) i 0) n)
unfolding least_below
least_or p q zero = refl
least_or p q (suc n) = rw (least_or p q n) (cross (p n) (q n) n (least_below (λ i. cond (p i) i 0) n) (least_below (λ i. cond (q i) i 0) n))
  where
    cross : (a b : Bool) (x y z : ℕ)
        → lesser (cond (a || b) x 0) (lesser y z) ≡ lesser (lesser (cond a x 0) y) (lesser (cond b x 0) z)
    cross true true x y z =
        ap (λ k. lesser k (lesser y z)) (sym (lesser_self x)) ∙ sym (lesser_assoc x x (lesser y z))
        ∙ ap (λ k. lesser x k) (lesser_swap x y z) ∙ lesser_assoc x y (lesser x z)
    cross true false x y z = lesser_assoc x y z
    cross false true x y z = lesser_swap x y z
    cross false false x y z = refl

least_beyond : (k n : ℕ) → n ≤ k → least_below (λ i. cond (eqb k i) i 0) n ≡ 0
unfolding least_below
least_beyond k zero l = refl
least_beyond k (suc n) l = rw (ne_eqb k n (λ e. omega arith), least_beyond k n (omega arith))

least_at : (k n : ℕ) → k < n → least_below (λ i. cond (eqb k i) i 0) n ≡ k
unfolding least_below
least_at k zero l = absurd (omega arith)
least_at k (suc n) l =
    cases_eq k n
    (λ e. rw (eq-eqb k n e, least_beyond k n (omega arith)) (sym (lesser_only n 0 refl) ∙ sym e))
    (λ e. rw (ne_eqb k n e, least_at k n (omega arith)))

least_never : (n : ℕ) → least_below (λ i. 0) n ≡ 0
unfolding least_below
least_never zero = refl
least_never (suc n) = least_never n

-- f gives each place that is on a number below m. The numbers are looked through in rising order, each for whether some
-- place has it: the first found is the least number of a place.
pub least_by : (on : ℕ → Bool) (f : ℕ → ℕ) (m n : ℕ) → ((i : ℕ) → i < n → on i ≡ true → f i < m)
    → least_below (λ s. cond (any_below (λ i. on i && eqb (f i) s) n) s 0) m ≡ least_below (λ i. cond (on i) (f i) 0) n
unfolding any_below least_below
least_by on f m zero h = least_never m
least_by on f m (suc n) h =
    let one : least_below (λ s. cond (on n && eqb (f n) s) s 0) m ≡ cond (on n) (f n) 0 =
    cases (on n) (λ e. rw e (least_at (f n) m (h n (omega arith) e))) (λ e. rw e (least_never m))
    in
    least_or (λ s. on n && eqb (f n) s) (λ s. any_below (λ i. on i && eqb (f i) s) n) m
    ∙ ap₂ (λ a b. lesser a b) one (least_by on f m n (λ i l. h i (omega arith)))
