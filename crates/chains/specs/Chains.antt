-- Places of a table in chains: a place is compared only with those before it that have its bucket, a number computed
-- from its record. A chain names a place by its number plus 1; 0 is the end. Assumes nothing.
use Rattle.std.specs.Prelude.{ℕ, zero, suc, ◌+◌, ◌-◌, ◌≤◌, ◌<◌, ◌≡◌, Bool, true, false, ◌&&◌, ◌||◌, not, cond, List, eqb, leb, ltb, length, get_or, set}
use Rattle.tables.specs.Count.{count_below, all_below}
use Rattle.tables.specs.Below.{any_below}
use Rattle.tables.specs.Keyed.{Blank}
use Rattle.chains.specs.Sizes.{owners, buckets, most_places, block_places}
use Rattle.chains.specs.declared.Seen.{Seen}
use Rattle.meaning.specs.Fields.{within}

-- the last place below n where p holds, plus 1; 0 where there is none
unfoldable pub last_below : (ℕ → Bool) → ℕ → ℕ
last_below p zero = 0
last_below p (suc n) = cond (p n) (suc n) (last_below p n)

-- csd says whose a place is, bucket gives its bucket
module _ (csd bucket : ℕ → ℕ) where
  -- whether the place is used and has the bucket k
  abbrev pub in_bucket : ℕ → ℕ → Bool
  in_bucket k j = not (eqb (csd j) 0) && eqb (bucket j) k

-- how many of the places below i each depository has
pub record Counted (csd : ℕ → ℕ) (counts : List ℕ) (i : ℕ) : Type 0 where
  pub long : length counts ≡ owners
  pub each : (a : ℕ) → 1 ≤ a → a ≤ 8 → get_or counts a 0 ≡ count_below (λ k. eqb (csd k) a) i

-- the used places below i in chains, the last first: head has the start of each bucket's chain, next what follows a
-- place
pub record Chained (csd bucket : ℕ → ℕ) (s : Seen) (i : ℕ) : Type 0 where
  pub heads : length s.head ≡ buckets
  pub nexts : length s.next ≡ most_places
  pub starts : (k : ℕ) → k < buckets → get_or s.head k 0 ≡ last_below (in_bucket csd bucket k) i
  pub follows : (j : ℕ) → j < i → (csd j ≡ 0 → ⊥) → get_or s.next j 0 ≡ last_below (in_bucket csd bucket (bucket j)) j

-- before the first place
pub record NoneSeen (s : Seen) : Type 0 where
  pub counts : Blank owners s.counts
  pub heads : Blank buckets s.head
  pub nexts : Blank most_places s.next

-- a walk along the chain of the bucket k, where only places of the bucket are asked for, has come to j: the places
-- below j answer for those below i
pub record Walking (csd bucket : ℕ → ℕ) (k : ℕ) (p : ℕ → Bool) (i j : ℕ) : Type 0 where
  pub only : (n : ℕ) → p n ≡ true → in_bucket csd bucket k n ≡ true
  pub few : j ≤ i
  pub here : (j ≡ 0 → ⊥) → in_bucket csd bucket k (j - 1) ≡ true
  pub left : any_below p j ≡ any_below p i

-- whether c is a depository below its quota, which is then counted
pub record Tallied (c q : ℕ) (answer : Bool) (s s' : Seen) : Type 0 where
  pub answered : answer ≡ (leb c 8 && ltb (get_or s.counts c 0) q)
  pub stored : answer ≡ true → s' ≡ record { counts = set s.counts c (get_or s.counts c 0 + 1); head = s.head; next = s.next }

-- place i entered into the chain of the bucket k
pub record Entered (k i : ℕ) (s s' : Seen) : Type 0 where
  pub counted : s'.counts ≡ s.counts
  pub headed : s'.head ≡ set s.head k (i + 1)
  pub linked : s'.next ≡ set s.next i (get_or s.head k 0)

-- what a walk along the chain of the bucket k finds: says tells what is answered at a place, and the answer is whether
-- one of the places in the chains is as asked, for any question that only places of the bucket meet
abbrev pub Walked : Seen → ℕ → (ℕ → Bool → Type 0) → Bool → Type 0
Walked s k says answer =
    (csd bucket : ℕ → ℕ) (i : ℕ) (p : ℕ → Bool) → Chained csd bucket s i
    → ((n : ℕ) → p n ≡ true → in_bucket csd bucket k n ≡ true) → ((n : ℕ) (r : Bool) → n < i → says n r → r ≡ p n)
    → answer ≡ any_below p i

-- the chains hold places of a table, at each of which may be asked
pub record Walkable (s : Seen) (k : ℕ) (may : ℕ → Type 0) : Type 0 where
  pub csd : ℕ → ℕ
  pub bucket : ℕ → ℕ
  pub places : ℕ
  pub chained : Chained csd bucket s places
  pub few : places ≤ most_places
  pub inside : k < buckets
  pub each : (n : ℕ) → n < places → may n

-- ---- a place of a table, judged by those before it

-- free says whether a place is all zero, rest what else is asked of its record, p k what no place before k may be; q is
-- the quota
module _ (csd : ℕ → ℕ) (free rest : ℕ → Bool) (p : ℕ → ℕ → Bool) (q : ℕ) where
  unfoldable pub right : ℕ → Bool
  right k =
      free k
      || (within 1 8 (csd k)
      && (rest k && (not (any_below (p k) k) && ltb (count_below (λ j. eqb (csd j) (csd k)) k) q)))

-- what one place leaves, and what the places below n leave: the answer, and the chains where all are right

pub record Passed (csd bucket : ℕ → ℕ) (good : ℕ → Bool) (i : ℕ) (answer : Bool) (s : Seen) : Type 0 where
  pub answered : answer ≡ good i
  pub counted : answer ≡ true → Counted csd s.counts (i + 1)
  pub chained : answer ≡ true → Chained csd bucket s (i + 1)

pub record AllPassed (csd bucket : ℕ → ℕ) (places : ℕ) (good : ℕ → Bool) (answer : Bool) (s : Seen) : Type 0 where
  pub answered : answer ≡ all_below good places
  pub chained : answer ≡ true → Chained csd bucket s places

-- what is known before place i: it is one of the table's, and those before it are counted and in chains
pub record Ready (csd bucket : ℕ → ℕ) (places i : ℕ) (s : Seen) : Type 0 where
  pub place : i < places
  pub counted : Counted csd s.counts i
  pub chained : Chained csd bucket s i

-- the places below i are each right, counted and in chains
pub record Going (csd bucket : ℕ → ℕ) (places : ℕ) (good : ℕ → Bool) (i : ℕ) (s : Seen) : Type 0 where
  pub few : i ≤ places
  pub all : all_below good i ≡ true
  pub counted : Counted csd s.counts i
  pub chained : Chained csd bucket s i

-- what a block of places from i on leaves
pub record Block (csd bucket : ℕ → ℕ) (places : ℕ) (good : ℕ → Bool) (i : ℕ) (answer : Bool) (s : Seen) : Type 0 where
  pub going : answer ≡ true → Going csd bucket places good (i + block_places) s
  pub fails : answer ≡ false → all_below good places ≡ false
