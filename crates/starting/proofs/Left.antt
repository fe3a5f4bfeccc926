-- What W leaves of the kept instructions of each depository, and of all other records.
use Prim.Native.Nat.{ℕ, zero, suc, ◌≤◌, ◌<◌}
use mathlib.Core.Path.{◌≡◌, refl, ap, sym, ◌∙◌}
use mathlib.Core.Bool.{Bool, true, false, cond}
use mathlib.Core.List.{List, [], ◌∷◌}
use mathlib.Core.Logic.{inr}
use Rattle.std.specs.Prelude.{Some, Result}
use native.Mathlib.Omega.{arith}
use lib.ListN.{length, get_or}
use borrow.Author.Tests.{eq-eqb, ne_eqb}
use Rattle.tables.specs.Count.{count, every, sift, or_none}
use Rattle.tables.specs.Table.{Fits, Apart}
use Rattle.tables.specs.Sweep.{sweep_to}
use Rattle.tables.proofs.Counts.{cases, and_l, ands}
use Rattle.tables.proofs.Lone.{every_at}
use Rattle.tables.proofs.Listed.{vacant_fits}
use Rattle.tables.proofs.Swept.{of_owner, list_apart, list_sifted, list_other}
use Rattle.meaning.specs.Records as M
use Rattle.meaning.specs.Forms.{holds, day as day_form}
use Rattle.meaning.specs.Keys.{is_kept}
use Rattle.meaning.specs.Judging.{rejected}
use Rattle.meaning.specs.Sound.{kept_fits, sound_lone}
use Rattle.meaning.specs.Pending.{are_types, started}
use Rattle.meaning.proofs.Good.{good_of_sound}
use Rattle.meaning.proofs.Listed.{Listed}
use Rattle.meaning.proofs.KeptPending.{kept_kind, day_started}
use Rattle.memory.proofs.Remembering.{Bytes, are_types_lem, bytes_put, length_put}
use Rattle.places.specs.Layout.{instruction_places, instruction_at}
use Rattle.places.specs.declared.Kept.{Kept}
use Rattle.records.specs.Said.{instruction_of}
use Rattle.records.specs.Tables.{TableName, table}
use Rattle.records.proofs.TableFacts.{lies}
use Rattle.records.proofs.Tables.{inside, instruction_whole}
use Rattle.records.proofs.Holds.{instruction_hold}
use Rattle.book.specs.Lone.{lone_book}
use Rattle.book.proofs.Lists.{lone_list, book_equal}
use Rattle.meaning.specs.declared.Verdict.{Verdict}
use Rattle.judge.specs.Within.{judged_within, exempted_within}
use Rattle.memory.specs.Remembered.{types_in, type_bits}
use Rattle.pending.specs.OnBytes.{asking_at, scope_at, kept_by, kept_unless, met_by, started_by, left_of, Remembering}
use Rattle.pending.proofs.Meets.{started_right}
use Rattle.records.specs.Tables.{kept}
use Rattle.starting.specs.Days.{instructions_of, start_step, start_day, Ready, StartsDay}
use Rattle.starting.proofs.Started.{kept_lies, day_size}

-- what the start of a day leaves of one instruction is in its range
one_listed : (k : M.Kept) → kept_fits k ≡ true → Listed kept_kind (k ∷ [])
unfolding every count
one_listed k f = record {
  few = omega arith;
  fit = rw f;
  once = cases (is_kept k.reference k) (λ e. rw e) (λ e. rw e);
}

fit_after : (m : M.Book) (day : ℕ) (k k' : M.Kept) → sound_lone m ≡ true → holds day_form day ≡ true → kept_fits k ≡ true
    → started m day k ≡ Some k' → kept_fits k' ≡ true
unfolding sift every
fit_after m day k k' z d f e =
    let g = (day_started m (good_of_sound m z).types_fit (one_listed k f) day d).fit in
    let h : every kept_fits (or_none (started m day k) []) ≡ true = g in
    and_l (kept_fits k') true (rw e at h)

-- the book's tables end where that of the instructions starts
apart_kept : (k : TableName) → Apart kept (table k)
apart_kept k = inr (inside k)

record OfBytes (m : List ℕ) : Type 0 where
  pub each : Bytes m

bytes_none : OfBytes []
bytes_none = record { each = λ k. omega arith }

bytes_cons : {x : ℕ} {m : List ℕ} → x < 256 → OfBytes m → OfBytes (x ∷ m)
bytes_cons {x = x} {m = m} l h = record { each = at }
  where
    at : (k : ℕ) → get_or (x ∷ m) k 0 < 256
    at zero = l
    at (suc k) = h.each k

module _ (csd day : ℕ) (b : List ℕ) where
  abbrev reached : ℕ → List ℕ
  reached n = sweep_to kept csd (start_step day) b n

  -- every lone book stays
  pub books_stay : (n a : ℕ) → n ≤ instruction_places → lone_book a (reached n) ≡ lone_book a b
  books_stay n a l =
      book_equal (lone_book a (reached n)) (lone_book a b)
      (λ k.
      lone_list k a (reached n)
      ∙ list_apart kept kept_lies csd (start_step day) b (table k) (lies k) (apart_kept k) n a l
      ∙ sym (lone_list k a b))

  module _ (r : Ready csd day b) where
    -- the instruction at a place of the depository
    module _ (k : ℕ) (l : k < instruction_places) (own : (instruction_at b k).csd ≡ csd) where
      abbrev i : Kept
      i = instruction_at b k

      -- what was found there, over the book as it is when the place is reached, and what is left if it is not rejected
      abbrev found : Result Kept Kept
      found = started_by (reached k) i day

      abbrev v : Verdict
      v = judged_within (reached k) (asking_at i day) (scope_at i) (type_bits i.remembered)

      abbrev left : Kept
      left = kept_by i day v (exempted_within (reached k) (asking_at i day) (scope_at i))

      found_is : found ≡ kept_unless (rejected v) left
      unfolding started_by met_by
      found_is = refl

      fits : kept_fits (instruction_of i) ≡ true
      unfolding instructions_of
      fits = every_at (λ x. x.csd) instruction_of csd kept_fits (instruction_at b) instruction_places r.fit k l own

      remembers : Remembering i
      unfolding kept_fits instruction_of instruction_at
      remembers =
          let f = fits in
          let t : are_types (types_in i.remembered) ≡ true = search ands in
          record { long = refl; clear = sym (are_types_lem i.remembered refl) ∙ t }

      -- which is what the meaning leaves
      found_right : left_of found ≡ started (lone_book csd b) day (instruction_of i)
      found_right =
          let same : lone_book i.csd (reached k) ≡ lone_book csd b = ap (λ c. lone_book c (reached k)) own ∙ books_stay k csd (omega arith) in
          started_right (reached k) i day (ap sound_lone same ∙ r.lone) remembers
          ∙ ap (λ m. started m day (instruction_of i)) same

      left_fits : rejected v ≡ false → kept_fits (instruction_of left) ≡ true
      left_fits e =
          fit_after (lone_book csd b) day (instruction_of i) (instruction_of left) r.lone r.real fits
          (sym found_right ∙ ap left_of found_is ∙ rw e)

      own_bytes : Bytes i.remembered
      unfolding instruction_at
      own_bytes =
          (bytes_cons (r.bytes _) (bytes_cons (r.bytes _) (bytes_cons (r.bytes _) (bytes_cons (r.bytes _) (bytes_cons (r.bytes _) (bytes_cons (r.bytes _) (bytes_cons (r.bytes _) (bytes_cons (r.bytes _) (bytes_cons (r.bytes _) (bytes_cons (r.bytes _) (bytes_cons (r.bytes _) (bytes_cons (r.bytes _) (bytes_cons (r.bytes _) bytes_none))))))))))))).each

      left_long : length left.remembered ≡ 13
      unfolding kept_by instruction_at
      left_long = length_put i.remembered _

      left_bytes : Bytes left.remembered
      unfolding kept_by
      left_bytes = bytes_put i.remembered _ remembers.long own_bytes

      left_csd : left.csd ≡ csd
      unfolding kept_by
      left_csd = own

      made_fits : Fits kept (start_step day (reached k) i)
      unfolding start_step kept_by
      made_fits =
          rw found_is
          (cases (rejected v)
          (λ e. rw e (vacant_fits kept kept_lies))
          (λ e.
          rw e
          (record {
            holds = instruction_hold left (omega (arith, left_csd, r.high)) left_bytes (left_fits e);
            whole = instruction_whole left left_long;
          })))

      -- its place is the depository's with what is left, or free
      made_says : of_owner kept.csd kept.rec csd (start_step day (reached k) i) ≡ started (lone_book csd b) day (instruction_of i)
      unfolding start_step kept_by started
      made_says =
          rw found_is
          (cases (rejected v)
          (λ e. rw (e, ne_eqb 0 csd (λ z. omega (arith, z, r.low))) (ap_left e))
          (λ e. rw (e, eq-eqb left.csd csd left_csd) (ap_left e)))
        where
          ap_left : {t : Bool} → rejected v ≡ t
              → left_of (kept_unless t left) ≡ started (lone_book csd b) day (instruction_of i)
          ap_left e = ap (λ t. left_of (kept_unless t left)) (sym e) ∙ sym (ap left_of found_is) ∙ found_right

      -- and no other's
      made_own : (a : ℕ) → 1 ≤ a → (csd ≡ a → ⊥) → (start_step day (reached k) i).csd ≡ a → ⊥
      unfolding start_step kept_by
      made_own a low d =
          rw found_is
          (cases (rejected v)
          (λ e. rw e (λ z. omega arith))
          (λ e. rw e (λ z. d (sym left_csd ∙ z))))

pub starts_day : StartsDay
unfolding start_day instructions_of
starts_day csd day b r = record {
  size = day_size b csd day instruction_places;
  own = list_sifted kept kept_lies csd (start_step day) b r.long (made_fits csd day b r) (started (lone_book csd b) day) (made_says csd day b r);
  others = λ a low d. list_other kept kept_lies csd (start_step day) b r.long (made_fits csd day b r) a d (λ k l o. made_own csd day b r k l o a low d);
  books = λ a. books_stay csd day b instruction_places a (omega arith);
}
