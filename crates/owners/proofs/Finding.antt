-- The first place where a test holds: what is passed before it, and how it is found.
use Prim.Native.Nat.{ℕ, zero, suc, ◌+◌, ◌*◌, ◌-◌, ◌≤◌, ◌<◌}
use mathlib.Core.Path.{◌≡◌, ap, sym, ◌∙◌, fun_ext}
use mathlib.Core.Bool.{Bool, true, false, false≢true}
use native.Mathlib.Nat.{mul-le-mul, add-mul}
use native.Mathlib.Omega.{arith}
use lib.Dec.{ltb}
use borrow.Author.Tests.{ltb-true, ltb-false, le-leb, lt-leb}
use Rattle.tables.proofs.Counts.{cases, cases_eq}
use mathlib.Core.List.{List}
use lib.Dec.{eqb}
use Rattle.std.specs.Prelude.{Option, Some, None, MatchOption}
use Rattle.std.specs.Option.{unwrap_or}
use Rattle.std.proofs.lemmas.Bool.{lt-ltb, le-ltb}
use Rattle.tables.specs.Bytes.{byte_at, Width, one, number, numbers}
use Rattle.owners.specs.Next.{first_from, next, Passed, owned, place_if}

module _ (p : ℕ → Bool) where
  -- ---- how it is found

  pub first_at : (i n k : ℕ) → i ≤ k → k < i + n → Passed p i k → p k ≡ true → k ≡ first_from p i n
  unfolding first_from
  first_at i zero k l h f e = absurd (omega arith)
  first_at i (suc n) k l h f e =
      cases (p i)
      (λ t. cases_eq i k (λ s. rw t (sym s)) (λ s. absurd (false≢true (sym (f i (omega arith) (omega arith)) ∙ t))))
      (λ t.
      cases_eq i k (λ s. absurd (false≢true (sym t ∙ ap p s ∙ e)))
      (λ s. rw t (first_at (i + 1) n k (omega arith) (omega arith) (λ j a b. f j (omega arith) b) e)))

  pub first_none : (i n : ℕ) → Passed p i (i + n) → i + n ≡ first_from p i n
  unfolding first_from
  first_none i zero f = omega arith
  first_none i (suc n) f =
      rw (f i (omega arith) (omega arith))
      (let e : i + suc n ≡ i + 1 + n = omega arith in
      e ∙ first_none (i + 1) n (λ j a b. f j (omega arith) (omega arith)))

  -- what `find` answers of n places from place i on
  pub found_from : (i n : ℕ) (r : Option ℕ) (k : ℕ)
      → MatchOption r ((j : ℕ) → i ≤ j → j < i + n → p j ≡ false) (λ j. (i ≤ j) × (j < i + n) × (p j ≡ true) × ((l : ℕ) → i ≤ l → l < j → p l ≡ false))
      → k ≡ unwrap_or r (i + n) → k ≡ first_from p i n
  found_from i n None k m e = e ∙ first_none i n m
  found_from i n (Some j) k m e = e ∙ first_at i n j m.0 m.1 m.3 m.2

  -- ---- what is passed before it

  pub first_low : (i n : ℕ) → i ≤ first_from p i n
  unfolding first_from
  first_low i zero = omega arith
  first_low i (suc n) = cases (p i) (λ t. rw t (omega arith)) (λ t. rw t (omega (arith, first_low (i + 1) n)))

  pub first_high : (i n : ℕ) → first_from p i n ≤ i + n
  unfolding first_from
  first_high i zero = omega arith
  first_high i (suc n) = cases (p i) (λ t. rw t (omega arith)) (λ t. rw t (omega (arith, first_high (i + 1) n)))

  pub first_passed : (i n : ℕ) → Passed p i (first_from p i n)
  unfolding first_from
  first_passed i zero j a b = absurd (omega arith)
  first_passed i (suc n) j a b =
      cases (p i)
      (λ t. absurd (omega (arith, here t)))
      (λ t. cases_eq j i (λ s. ap p s ∙ t) (λ s. first_passed (i + 1) n j (omega arith) (omega (arith, there t))))
    where
      here : p i ≡ true → first_from p i (suc n) ≡ i
      here t = rw t

      there : p i ≡ false → first_from p i (suc n) ≡ first_from p (i + 1) n
      there t = rw t

  -- ---- two runs of places are passed

  pub passed_on : (i k m : ℕ) → Passed p i k → Passed p k m → Passed p i m
  passed_on i k m f g j a b = cases (ltb j k) (λ t. f j a (ltb-true j k t)) (λ t. g j (ltb-false j k t) b)

  -- ---- of a table

  pub next_at : (places i k : ℕ) → i ≤ k → k < places → Passed p i k → p k ≡ true → k ≡ next p places i
  unfolding next
  next_at places i k l h f e = rw (le-leb i places (omega arith)) (first_at i (places - i) k l (omega arith) f e)

  pub next_none : (places i k : ℕ) → places ≤ k → Passed p i k → places ≡ next p places i
  unfolding next
  next_none places i k h f =
      cases (ltb places i) (λ t. rw (lt-leb i places (ltb-true places i t)))
      (λ t.
      let l : i ≤ places = omega (arith, ltb-false places i t) in
      let e : i + (places - i) ≡ places = omega arith in
      rw (le-leb i places l) (sym e ∙ first_none i (places - i) (λ j a b. f j a (omega arith))))

  pub next_low : (places i : ℕ) → i ≤ places → i ≤ next p places i
  unfolding next
  next_low places i l = rw (le-leb i places l) (first_low i (places - i))

  pub next_high : (places i : ℕ) → next p places i ≤ places
  unfolding next
  next_high places i =
      cases (ltb places i) (λ t. rw (lt-leb i places (ltb-true places i t)) (omega arith))
      (λ t.
      let l : i ≤ places = omega (arith, ltb-false places i t) in
      rw (le-leb i places l) (omega (arith, first_high i (places - i))))

  pub next_passed : (places i : ℕ) → i ≤ places → Passed p i (next p places i)
  unfolding next
  next_passed places i l = rw (le-leb i places l) (first_passed i (places - i))

-- ---- addresses

pub seven : (j w : ℕ) → j < 8 → j * w ≤ 7 * w
seven j w l = let a : j ≤ 7 = omega arith in let b : w ≤ w = omega arith in mul-le-mul a b

-- ---- what `eight_passed` leaves to show

eight_passed_at : (b : List ℕ) (start width a i at r : ℕ) → r ≡ first_from (λ j. eqb (byte_at b (at + j * width)) a) 0 8
    → at ≡ start + i * width → (r ≤ 8) × Passed (owned b start width a) i (i + r)
eight_passed_at b start width a i at r e f = (
  omega (arith, e, first_high p 0 8),
  λ k low high.
      ap (λ x. eqb (byte_at b x) a) (here k low)
      ∙ first_passed p 0 8 (k - i) (omega arith) (omega (arith, e)),
)
  where
    p : ℕ → Bool
    p j = eqb (byte_at b (at + j * width)) a

    here : (k : ℕ) → i ≤ k → start + k * width ≡ at + (k - i) * width
    here k low =
        let s : k ≡ i + (k - i) = omega arith in
        let m : k * width ≡ i * width + (k - i) * width = ap (λ x. x * width) s ∙ add-mul i (k - i) width in
        omega (arith, f, m)

pub eight_passed : (b : List ℕ) (start width a i at w r : ℕ)
    → r ≡ first_from (λ j. eqb (byte_at b (at + j * w)) a) 0 8 → at ≡ start + i * width → w ≡ width
    → (r ≤ 8) × Passed (owned b start width a) i (i + r)
eight_passed b start width a i at w r e f s = eight_passed_at b start width a i at r (rw s at e) f

-- ---- what `next` asks of a place: x is read at the address of place k

pub own_place : (b : List ℕ) (start width a k at x : ℕ) → x ≡ byte_at b at → at ≡ start + k * width
    → eqb x a ≡ owned b start width a k
own_place b start width a k at x e f = ap (λ y. eqb y a) (e ∙ ap (byte_at b) f)

-- ---- of a table: a place's first byte is its depository

module _ {P : Type 0} (csd : P → ℕ) (at : List ℕ → ℕ → P) (from : List ℕ → P) (widths : List Width) (start width : ℕ)
    (reads : (b : List ℕ) (i : ℕ) → at b i ≡ from (numbers widths b (start + i * width) 0))
    (first : (b : List ℕ) (a : ℕ) → csd (from (numbers widths b a 0)) ≡ number one b a 0) where
  pub next_of : (b : List ℕ) (a places i : ℕ) → next (owned b start width a) places i ≡ next (λ k. eqb (csd (at b k)) a) places i
  next_of b a places i =
      ap (λ f. next f places i)
      (fun_ext (λ k. ap (λ x. eqb x a) (sym (ap csd (reads b k) ∙ first b (start + k * width) ∙ here b (start + k * width)))))
    where
      here : (b : List ℕ) (k : ℕ) → number one b k 0 ≡ byte_at b k
      here b k = let e : k + 0 ≡ k = omega arith in ap (byte_at b) e

-- ---- the place, if the table has it

pub place_some : (places k n : ℕ) → Some k ≡ place_if places n → (k ≡ n) × (n < places)
unfolding place_if
place_some places k n e =
    cases (ltb n places) (λ t. let f = rw t at e in (cc, ltb-true n places t)) (λ t. let f = rw t at e in cc)

pub place_none : (places n : ℕ) → None ≡ place_if places n → places ≤ n
unfolding place_if
place_none places n e = cases (ltb n places) (λ t. let f = rw t at e in cc) (λ t. ltb-false n places t)

pub place_at : (places n : ℕ) → n < places → Some n ≡ place_if places n
unfolding place_if
place_at places n l = rw (lt-ltb n places l)

pub place_out : (places n : ℕ) → places ≤ n → None ≡ place_if places n
unfolding place_if
place_out places n l = rw (le-ltb n places l)

pub place_found : (places k n m : ℕ) → k < places → k ≡ n → n ≡ m → Some k ≡ place_if places m
place_found places k n m l e f = place_at places k l ∙ ap (place_if places) (e ∙ f)

pub place_lost : (places n m : ℕ) → places ≡ n → n ≡ m → None ≡ place_if places m
place_lost places n m e f = place_out places m (omega arith)

-- what `find` answers of the places from place k on, up to which none is passed that p holds at
pub found_next : (p : ℕ → Bool) (places i k end : ℕ) (r : Option ℕ) → end ≡ places → i ≤ k → Passed p i k
    → MatchOption r ((j : ℕ) → k ≤ j → j < end → p j ≡ false) (λ j. (k ≤ j) × (j < end) × (p j ≡ true) × ((l : ℕ) → k ≤ l → l < j → p l ≡ false))
    → r ≡ place_if places (next p places i)
found_next p places i k end None e l f m =
    place_out places (next p places i) (omega (arith, next_none p places i end (omega arith) (passed_on p i k end f m)))
found_next p places i k end (Some j) e l f m =
    let h : j < places = omega (arith, m.1, e) in
    place_at places j h
    ∙ ap (place_if places) (next_at p places i j (omega (arith, l, m.0)) h (passed_on p i k j f m.3) m.2)

-- a place that is found from place i on is none before
pub place_from : (p : ℕ → Bool) (places i k : ℕ) → Some k ≡ place_if places (next p places i) → (i ≤ k) × (k < places)
unfolding next
place_from p places i k e =
    let f : (k ≡ next p places i) × (next p places i < places) = place_some places k (next p places i) e in (
      cases (ltb places i) (λ t. absurd (omega (arith, f.0, f.1, beyond t)))
          (λ t. omega (arith, f.0, next_low p places i (ltb-false places i t))),
      omega (arith, f.0, f.1),
    )
  where
    beyond : ltb places i ≡ true → next p places i ≡ places
    beyond t = rw (lt-leb i places (ltb-true places i t))
