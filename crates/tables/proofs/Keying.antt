-- Laws of a table addressed by key, for any table of records, key, test and step: before the first place, one place
-- more, and what its entries say of all the places.
use Prim.Native.Nat.{ℕ, zero, suc, ◌+◌, ◌*◌, ◌/◌, ◌%◌, ◌<◌}
use mathlib.Core.Path.{◌≡◌, refl, ap, ap₂, sym, ◌∙◌, fun_ext}
use mathlib.Core.Bool.{Bool, true, false, ◌&&◌, cond, and-false}
use mathlib.Core.List.{List}
use native.Mathlib.Nat.{mul-add-mod_self_right, mul-add-div_right, mod-eq_of_lt, div-eq_of_lt}
use native.Mathlib.Numerals.{add-one}
use native.Mathlib.Omega.{arith}
use lib.Dec.{eqb, ltb}
use lib.ListN.{get_or, set, length-set, get_or-eq_default}
use lib.Seq.{set_out, get_or-set_same, get_or-set_other}
use borrow.Author.Tests.{eq-eqb, ne_eqb, ltb-true, ltb-false}
use Rattle.tables.specs.Count.{bit, lesser}
use Rattle.tables.specs.Below.{any_below, least_below}
use Rattle.tables.specs.Keyed.{marked, hits, entry, keys, leasts, after_place, Keyed, Blank}
use Rattle.tables.proofs.Counts.{cases, cases_eq}
use Rattle.tables.proofs.Below.{any_never}

-- A place of another depository leaves nothing: c is read first.
module _ {P : Type 0} (csd : P → ℕ) (a : ℕ) (key : P → ℕ) (on : P → Bool) (step : P → ℕ → ℕ) where
  pub place_other : (y : P) (t : List ℕ) (c : ℕ) → c ≡ csd y → (c ≡ a → ⊥) → t ≡ after_place csd a key on step y t
  unfolding after_place
  place_other y t c ec d = rw (ne_eqb (csd y) a (λ z. d (ec ∙ z)))

module _ {P : Type 0} (size : ℕ) (csd : P → ℕ) (a : ℕ) (at : ℕ → P) (key : P → ℕ) (on : P → Bool) (step : P → ℕ → ℕ) where
  entry_more : (k n : ℕ)
      → entry csd a at key on step k (n + 1)
      ≡ cond (hits csd a at key on k n) (step (at n) (entry csd a at key on step k n)) (entry csd a at key on step k n)
  unfolding entry
  entry_more k n = rw add-one

  -- Before the first place.
  pub keyed_none : (t : List ℕ) → Blank size t → Keyed size csd a at key on step t 0
  unfolding entry
  keyed_none t b = record { long = b.long; each = λ k l. b.each k l }

  -- One place more that hits no key leaves the table as it is.
  keyed_missed : (t : List ℕ) (n : ℕ) → Keyed size csd a at key on step t n
      → ((k : ℕ) → k < size → hits csd a at key on k n ≡ false) → Keyed size csd a at key on step t (n + 1)
  keyed_missed t n m h = record { long = m.long; each = λ k l. rw (entry_more, h k l) (m.each k l) }

  -- One place more.
  pub keyed_more : (t t' : List ℕ) (n : ℕ) → Keyed size csd a at key on step t n
      → t' ≡ after_place csd a key on step (at n) t → Keyed size csd a at key on step t' (n + 1)
  unfolding after_place
  keyed_more t t' n m e =
      let k = key (at n) in
      let v = step (at n) (get_or t (key (at n)) 0) in
      cases (eqb (csd (at n)) a)
      (λ o.
      cases (on (at n))
      (λ f.
      let s : t' ≡ set t k v = e ∙ rw (o, f) in
      cases (ltb k size)
      (λ g.
      record {
        long = rw (s, length-set) m.long;
        each = λ j l.
            cases_eq j k
            (λ h.
            rw (s, entry_more, h, o, f, eq-eqb k k refl)
            (get_or-set_same t k v 0 (omega (arith, m.long, ltb-true k size g)) ∙ ap (step (at n)) (m.each k (ltb-true k size g))))
            (λ h. rw (s, entry_more, o, f, ne_eqb k j (λ z. h (sym z))) (get_or-set_other t k j v 0 h ∙ m.each j l));
      })
      (λ g.
      rw (s ∙ set_out t k v (omega (arith, m.long, ltb-false k size g)))
      (keyed_missed t n m (λ j l. rw (o, f, ne_eqb k j (λ z. omega (arith, ltb-false k size g)))))))
      (λ f. let s : t' ≡ t = e ∙ rw (o, f) in rw s (keyed_missed t n m (λ j l. rw (o, f)))))
      (λ o. let s : t' ≡ t = e ∙ rw o in rw s (keyed_missed t n m (λ j l. rw o)))

  -- Past its end a table has no entry.
  keyed_at : (t : List ℕ) (n : ℕ) → Keyed size csd a at key on step t n → (k : ℕ)
      → get_or t k 0 ≡ cond (ltb k size) (entry csd a at key on step k n) 0
  keyed_at t n m k =
      cases (ltb k size)
      (λ e. rw e (m.each k (ltb-true k size e)))
      (λ e. rw e (get_or-eq_default t 0 (omega (arith, m.long, ltb-false k size e))))

-- ---- what the entries say

module _ {P : Type 0} (size : ℕ) (csd : P → ℕ) (a : ℕ) (at : ℕ → P) (key : P → ℕ) (on : P → Bool) where
  entry_mark : (k n : ℕ) → entry csd a at key on (λ r m. 1) k n ≡ bit (any_below (hits csd a at key on k) n)
  unfolding entry any_below
  entry_mark k zero = refl
  entry_mark k (suc n) = cases (hits csd a at key on k n) (λ e. rw e) (λ e. rw e (entry_mark k n))

  -- After the last place, a table of marks has the keys that are hit.
  pub keyed_marks : (t : List ℕ) (i n : ℕ) → Keyed size csd a at key on (λ r m. 1) t i → i ≡ n
      → marked t ≡ keys csd a at key on size n
  unfolding keys
  keyed_marks t i n m e =
      fun_ext (λ k.
      ap (λ x. eqb x 1) (keyed_at size csd a at key on (λ r m. 1) t n (rw e at m) k)
      ∙ cases (ltb k size)
      (λ f. rw (f, entry_mark k n) (bit_one (any_below (hits csd a at key on k) n)))
      (λ f. rw f))
    where
      bit_one : (x : Bool) → eqb (bit x) 1 ≡ x
      bit_one true = refl
      bit_one false = refl

  entry_least : (f : P → ℕ) (k n : ℕ)
      → entry csd a at key on (λ r m. lesser (f r) m) k n
      ≡ least_below (λ i. cond (hits csd a at key on k i) (f (at i)) 0) n
  unfolding entry least_below
  entry_least f k zero = refl
  entry_least f k (suc n) = cases (hits csd a at key on k n) (λ e. rw (e, entry_least f k n)) (λ e. rw (e, entry_least f k n))

  -- And a table of least numbers has those of the places that hit each key.
  pub keyed_leasts : (f : P → ℕ) (t : List ℕ) (i n : ℕ) → Keyed size csd a at key on (λ r m. lesser (f r) m) t i → i ≡ n
      → (λ k. get_or t k 0) ≡ leasts csd a at key on f size n
  unfolding leasts
  keyed_leasts f t i n m e =
      fun_ext (λ k.
      keyed_at size csd a at key on (λ r m. lesser (f r) m) t n (rw e at m) k
      ∙ ap (λ x. cond (ltb k size) x 0) (entry_least f k n))

  -- Where every place of a that is on has a key of the table, the table tells of every key.
  pub keys_all : (n : ℕ) → ((i : ℕ) → i < n → csd (at i) ≡ a → on (at i) ≡ true → key (at i) < size) → (k : ℕ)
      → keys csd a at key on size n k ≡ any_below (hits csd a at key on k) n
  unfolding keys
  keys_all n h k =
      cases (ltb k size) (λ e. rw e)
      (λ e.
      rw e
      (sym (any_never (hits csd a at key on k) n
      (λ i l.
      cases_eq (csd (at i)) a
      (λ o.
      cases (on (at i))
      (λ f. rw (f, ne_eqb (key (at i)) k (λ z. omega (arith, h i l o f, ltb-false k size e)), and-false))
      (λ f. rw (f, and-false)))
      (λ o. rw (ne_eqb (csd (at i)) a o))))))

-- Keys of two parts, the second below w: equal exactly if both parts are.
pub parts_eq : (w a b c d : ℕ) → b < w → d < w → eqb (a * w + b) (c * w + d) ≡ (eqb b d && eqb a c)
parts_eq w a b c d l m =
    cases_eq b d
    (λ e.
    cases_eq a c
    (λ f. rw (eq-eqb b d e, eq-eqb a c f) (eq-eqb (a * w + b) (c * w + d) (ap₂ (λ x y. x * w + y) f e)))
    (λ f. rw (eq-eqb b d e, ne_eqb a c f) (ne_eqb (a * w + b) (c * w + d) (λ z. f (first_part z)))))
    (λ e. rw (ne_eqb b d e) (ne_eqb (a * w + b) (c * w + d) (λ z. e (second_part z))))
  where
    second : (x y : ℕ) → y < w → (x * w + y) % w ≡ y
    second x y h = mul-add-mod_self_right x w y ∙ mod-eq_of_lt h

    first : (x y : ℕ) → y < w → (x * w + y) / w ≡ x
    first x y h = mul-add-div_right (omega arith) x y ∙ ap (λ z. x + z) (div-eq_of_lt h) ∙ omega arith

    second_part : a * w + b ≡ c * w + d → b ≡ d
    second_part z = sym (second a b l) ∙ ap (λ k. k % w) z ∙ second c d m

    first_part : a * w + b ≡ c * w + d → a ≡ c
    first_part z = sym (first a b l) ∙ ap (λ k. k / w) z ∙ first c d m
