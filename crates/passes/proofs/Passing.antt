-- One step of a pass: from a depository's next place to the one behind it, or to the table's end.
use Prim.Native.Nat.{ℕ, zero, suc, ◌+◌, ◌-◌, ◌≤◌, ◌<◌}
use mathlib.Core.Path.{◌≡◌, refl, ap, ◌∙◌}
use mathlib.Core.Bool.{Bool, true, false, cond}
use mathlib.Core.List.{List}
use Rattle.std.specs.Prelude.{Option, Some, None}
use Rattle.std.specs.Bool.{then_some}
use native.Mathlib.Omega.{arith}
use lib.Dec.{eqb, leb}
use lib.ListN.{length, get_or, set, length-replicate, get_or-replicate}
use borrow.Author.Tests.{le-leb}
use Rattle.tables.specs.Bytes.{zeros}
use Rattle.tables.specs.Keyed.{after_place, Keyed, Blank}
use Rattle.tables.proofs.Counts.{cases}
use Rattle.tables.proofs.Keying.{keyed_none}
use Rattle.owners.specs.Next.{first_from, next, place_if}
use Rattle.owners.proofs.Finding.{next_high, place_some, place_none}
use Rattle.owners.proofs.NextPassing.{pass_more, pass_end}

-- A table that is filled with zeros is blank.
pub cleared : (t₀ t : List ℕ) → t ≡ zeros (length t₀) → Blank (length t₀) t
unfolding zeros
cleared t₀ t z = record {
  long = ap length z ∙ length-replicate {A = ℕ} (length t₀) 0;
  each = λ k l. ap (λ x. get_or x k 0) z ∙ get_or-replicate (length t₀) k 0 0 l;
}

-- What a record's key and entry, if it has one, make of a table.
pub stored : Option (ℕ × ℕ) → List ℕ → List ℕ
stored None t = t
stored (Some e) t = set t e.0 e.1

pub stored_some : (t t' : List ℕ) (k v : ℕ) (e : Option (ℕ × ℕ)) → t' ≡ set t k v → e ≡ Some (k, v) → t' ≡ stored e t
unfolding stored
stored_some t t' k v e s i = rw i s

pub stored_none : (t : List ℕ) (e : Option (ℕ × ℕ)) → e ≡ None → t ≡ stored e t
unfolding stored
stored_none t e i = rw i refl

stored_if : (v : Bool) (e : ℕ × ℕ) (t : List ℕ) → stored (then_some v e) t ≡ cond v (set t e.0 e.1) t
unfolding stored
stored_if true e t = refl
stored_if false e t = refl

-- What is found holds.
first_here : (p : ℕ → Bool) (i n : ℕ) → first_from p i n < i + n → p (first_from p i n) ≡ true
unfolding first_from
first_here p i zero l = absurd (omega arith)
first_here p i (suc n) l =
    cases (p i)
    (λ e. rw e e)
    (λ e. rw e (first_here p (i + 1) n (let h = rw e at l in omega arith)))

next_here : (p : ℕ → Bool) (places i : ℕ) → i ≤ places → next p places i < places → p (next p places i) ≡ true
unfolding next
next_here p places i l h =
    let e : leb i places ≡ true = le-leb i places l in
    let f : first_from p i (places - i) < places = rw e at h in
    rw e (first_here p i (places - i) (omega arith))

module _ {P : Type 0} (size : ℕ) (csd : P → ℕ) (at : List ℕ → ℕ → P) (key : P → ℕ) (on : P → Bool) (step : P → ℕ → ℕ) (places : ℕ) (b : List ℕ) (a : ℕ) where
  pub pass_begun : (t : List ℕ) (i : ℕ) → Blank size t → i ≡ 0 → Keyed size csd a (at b) key on step t i
  pass_begun t i h e = rw e (keyed_none size csd a (at b) key on step t h)

  -- r is the record at place k, and e its key and entry
  pub passed_on : (t t' c : List ℕ) (d i k : ℕ) (r : P) (e : Option (ℕ × ℕ)) → Keyed size csd a (at b) key on step t i → i ≤ places
      → c ≡ b → d ≡ a → Some k ≡ place_if places (next (λ j. eqb (csd (at c j)) d) places i)
      → t' ≡ stored e t → e ≡ then_some (on r) (key r, step r (get_or t (key r) 0)) → r ≡ at b k
      → (k < places) × Keyed size csd a (at b) key on step t' (k + 1)
  unfolding after_place
  passed_on t t' c d i k r e m l ec ed f et ee er =
      let g = place_some places k (next (λ j. eqb (csd (at b j)) a) places i) (rw (ec, ed) at f) in
      let below : next (λ j. eqb (csd (at b j)) a) places i < places = g.1 in
      let own : eqb (csd (at b k)) a ≡ true = rw g.0 (next_here (λ j. eqb (csd (at b j)) a) places i l below) in
      let new : t' ≡ cond (on r) (set t (key r) (step r (get_or t (key r) 0))) t
      = et ∙ ap (λ z. stored z t) ee ∙ stored_if (on r) (key r, step r (get_or t (key r) 0)) t in (
        omega (arith, g.0, below),
        pass_more size csd a (at b) key on step places t t' i k (new ∙ rw (own, er)) g.0 l m,
      )

  pub passed_all : (t c : List ℕ) (d i : ℕ) → Keyed size csd a (at b) key on step t i → i ≤ places → c ≡ b → d ≡ a
      → None ≡ place_if places (next (λ j. eqb (csd (at c j)) d) places i) → Keyed size csd a (at b) key on step t places
  passed_all t c d i m l ec ed f =
      let g = place_none places (next (λ j. eqb (csd (at b j)) a) places i) (rw (ec, ed) at f) in
      let high = next_high (λ j. eqb (csd (at b j)) a) places i in
      let e : next (λ j. eqb (csd (at b j)) a) places i ≡ places = omega arith in
      pass_end size csd a (at b) key on step places t i (next (λ j. eqb (csd (at b j)) a) places i) refl l e m

-- ---- a table of a size that is given

pub keyed_of : {P : Type 0} {csd : P → ℕ} {a : ℕ} {at : ℕ → P} {key : P → ℕ} {on : P → Bool} {step : P → ℕ → ℕ} {t : List ℕ} {n : ℕ}
    (m size : ℕ) → m ≡ size → Keyed m csd a at key on step t n → Keyed size csd a at key on step t n
keyed_of m size e h = rw e at h
