-- What S, W and L make of one kept instruction, by the bytes of the lent book; and what that is in the written meaning.
-- Each definition is of any bytes. Assumes nothing.
use Rattle.std.specs.Prelude.{ℕ, ◌≡◌, Bool, true, not, cond, List, eqb, length, replicate, Option, Some, None, Result, Ok, Err, is_err}
use Rattle.meaning.specs.Records as M
use Rattle.meaning.specs.Records.{validation_hold, party_hold}
use Rattle.meaning.specs.Judging.{rejected, judged}
use Rattle.meaning.specs.Pending.{since, entered}
use Rattle.meaning.specs.declared.Verdict.{Verdict}
use Rattle.memory.specs.Remembered.{spare_clear, type_bits, with_types}
use Rattle.places.specs.declared.Kept.{Kept}
use Rattle.records.specs.Said.{instruction_of}
use Rattle.commands.specs.declared.Question.{Question}
use Rattle.judge.specs.Stages.{judged_by}
use Rattle.judge.specs.Within.{whole, judged_within, exempted_within}
use Rattle.judge.specs.declared.Scope.{Scope}

-- the question that a kept instruction is on a day
abbrev pub asking_at : Kept → ℕ → Question
asking_at k day = record {
  csd = k.csd;
  day = day;
  object = k.object;
  role = k.role;
  movement = k.movement;
  payment = k.payment;
  transaction = k.transaction;
  currency = k.currency;
  party = k.party;
  account = k.account;
  security = k.security;
}

-- an instruction before it meets a rule
abbrev pub fresh_at : ℕ → Question → Kept
fresh_at reference q = record {
  csd = q.csd;
  reference = reference;
  object = q.object;
  role = q.role;
  movement = q.movement;
  payment = q.payment;
  transaction = q.transaction;
  currency = q.currency;
  party = q.party;
  account = q.account;
  security = q.security;
  validating = 0;
  holding = 0;
  remembered = replicate 13 0;
}

-- with these days of its holds, and these types remembered
abbrev pub kept_with : Kept → ℕ → ℕ → List ℕ → Kept
kept_with k validating holding remembered = record {
  csd = k.csd;
  reference = k.reference;
  object = k.object;
  role = k.role;
  movement = k.movement;
  payment = k.payment;
  transaction = k.transaction;
  currency = k.currency;
  party = k.party;
  account = k.account;
  security = k.security;
  validating = validating;
  holding = holding;
  remembered = remembered;
}

-- what is left by a verdict on a day and the types exempted
unfoldable pub kept_by : Kept → ℕ → Verdict → (ℕ → Bool) → Kept
kept_by k day v exempt =
    kept_with k (since day k.validating v.validation) (since day k.holding v.party) (with_types k.remembered exempt)

-- what is kept, or what an instruction that is rejected would be left as
abbrev pub kept_unless : Bool → Kept → Result Kept Kept
kept_unless t k = cond t (Err k) (Ok k)

unfoldable pub met_by : Kept → ℕ → Verdict → (ℕ → Bool) → Result Kept Kept
unfolding kept_by
met_by k day v exempt = kept_unless (rejected v) (kept_by k day v exempt)

-- S is judged as a question is
unfoldable pub entered_by : List ℕ → ℕ → Question → Result Kept Kept
unfolding met_by
entered_by b reference q = met_by (fresh_at reference q) q.day (judged_by b q) (exempted_within b q whole)

-- only the rules that are new on the day; a hold that is on passes its types over
abbrev pub scope_at : Kept → Scope
scope_at k = record { fresh = true; validating = not (eqb k.validating 0); holding = not (eqb k.holding 0) }

-- W, of one instruction
unfoldable pub started_by : List ℕ → Kept → ℕ → Result Kept Kept
unfolding met_by
started_by b k day =
    met_by k day (judged_within b (asking_at k day) (scope_at k) (type_bits k.remembered))
    (exempted_within b (asking_at k day) (scope_at k))

-- L
unfoldable pub released_at : ℕ → Kept → Kept
released_at hold k =
    kept_with k (cond (eqb hold validation_hold) 0 k.validating) (cond (eqb hold party_hold) 0 k.holding) k.remembered

-- ---- in the written meaning

-- what is left of an instruction, if anything
abbrev pub left_of : Result Kept Kept → Option M.Kept
left_of (Ok k) = Some (instruction_of k)
left_of (Err k) = None

-- with its holds and memory, whether it is rejected or not
abbrev pub either_of : Result Kept Kept → Kept
either_of (Ok k) = k
either_of (Err k) = k

-- thirteen bytes, of which no bit is on that is no type's, as in every sound record
pub record Remembering (k : Kept) : Type 0 where
  pub long : length k.remembered ≡ 13
  pub clear : spare_clear k.remembered ≡ true

-- what S answers and keeps; of a question that is rejected too, what would be kept
pub record Entered (m : M.Book) (reference : ℕ) (q : M.Question) (r : Result Kept Kept) : Type 0 where
  pub rejected : is_err r ≡ rejected (judged m q)
  pub kept : instruction_of (either_of r) ≡ entered m reference q
