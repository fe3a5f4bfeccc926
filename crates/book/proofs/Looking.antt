-- A place looked at, of those counted or of those where one is to be found.
use Rattle.std.proofs.Common.{ℕ, zero, suc, ◌+◌, ◌-◌, ◌≤◌, ◌≡◌, refl, ap, sym, ◌∙◌, arith, Bool, ◌&&◌, List, [], ◌∷◌, eqb}
use Rattle.std.specs.Prelude.{Option}
use Rattle.std.specs.declared.ops.Range.{Range}
use Rattle.std.specs.declared.iter.Rev.{Rev}
use Rattle.std.specs.Option.{option_map}
use Rattle.std.specs.List.{find}
use Rattle.std.specs.Iterator.{AlwaysYields}
use Rattle.std.specs.Iterator.Adapters.{rev_source, rev_steps}
use Rattle.std.specs.Range.{range_steps_back}
use Rattle.std.proofs.lemmas.Iterator.Adapters.{option_map_id}
use Rattle.tables.specs.Count.{bit, count_below, find_below}
use Rattle.tables.proofs.Counts.{cases, count_more}
use Rattle.owners.specs.Next.{next, place_if}
use Rattle.owners.proofs.Finding.{place_found, place_lost}
use Rattle.owners.proofs.NextPassing.{count_next}

-- ---- counted: k is the next place of depository a from place i on

module _ {P : Type 0} (csd : P → ℕ) (at : ℕ → P) (places a i k : ℕ) (e : k ≡ next (λ j. eqb (csd (at j)) a) places i) (l : i ≤ places) where
  module _ (f : P → Bool) (n : ℕ) (c : n ≡ count_below (λ j. eqb (csd (at j)) a && f (at j)) i) where
    pub counted_next : (d : ℕ) (t : Bool) → d ≡ bit t → t ≡ (eqb (csd (at k)) a && f (at k))
        → n + d ≡ count_below (λ j. eqb (csd (at j)) a && f (at j)) (k + 1)
    counted_next d t x y = rw (count_more (λ j. eqb (csd (at j)) a && f (at j)) k, x, y, count_next csd a at places f i k n e l c)

-- ---- found, from the last place down

-- the numbers below n, the greatest first
pub down : ℕ → List ℕ
down zero = []
down (suc n) = n ∷ down n

abbrev pub back : Range ℕ → Option ℕ → Range ℕ → Type 0
back = range_steps_back (λ a b. b - a) (λ a b. b ≡ a + 1)

pub down_gives : (n k : ℕ) (s : Rev (Range ℕ)) → k ≡ n → rev_source s ≡ record { start = 0; end = k }
    → AlwaysYields (rev_steps back) (λ x. x) s (down n)
unfolding down
down_gives n k s f e = going n s (ap (λ r. r.start) e) (ap (λ r. r.end) e ∙ f)
  where
    going : (n : ℕ) (s : Rev (Range ℕ)) → (rev_source s).start ≡ 0 → (rev_source s).end ≡ n
        → AlwaysYields (rev_steps back) (λ x. x) s (down n)
    going zero s z e = λ x t p. omega (arith, p.1.0)
    going (suc n) s z e = (
      λ t p. omega (arith, p.1.0),
      λ x t p. (omega (arith, p.1.1, p.1.2), going n t (p.0 ∙ z) (omega (arith, p.1.2))),
    )

found_down : (places : ℕ) (p : ℕ → Bool) (n : ℕ) → n ≤ places
    → find p (down n) ≡ place_if places (find_below places p n)
unfolding find_below down
found_down places p zero l = place_lost places places places refl refl
found_down places p (suc n) l =
    cases (p n) (λ t. rw t (place_found places n n n (omega arith) refl refl)) (λ t. rw t (found_down places p n (omega arith)))

-- the last of the places that are as asked, where places is the table's number of places
pub found_last : (n places : ℕ) (p : ℕ → Bool) (r : Option ℕ) → places ≡ n → option_map (λ x. x) r ≡ find p (down n)
    → r ≡ place_if n (find_below places p places)
found_last n places p r e h =
    sym (option_map_id r) ∙ h ∙ found_down n p n (omega arith) ∙ ap (λ k. place_if n (find_below k p k)) (sym e)
