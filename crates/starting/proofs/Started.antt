-- What the functions store, and what W leaves of the kept instructions of each depository.
use Prim.Native.Nat.{ℕ}
use mathlib.Core.Path.{◌≡◌, refl, ap, ◌∙◌}
use mathlib.Core.Bool.{true}
use mathlib.Core.List.{List}
use Rattle.std.specs.Prelude.{Result}
use Rattle.std.specs.Result.{result_unwrap_or}
use lib.ListN.{length}
use lib.Dec.{eqb}
use borrow.Author.Tests.{eqb-true}
use Rattle.tables.specs.Count.{every}
use Rattle.tables.specs.Table.{Lies}
use Rattle.tables.specs.Sweep.{sweep_at, sweep_to}
use Rattle.tables.proofs.Counts.{ands, cases}
use Rattle.tables.proofs.Swept.{swept_size}
use Rattle.places.specs.Layout.{instruction_places, instruction_numbers, instruction_at, put_instruction, zero_instruction}
use Rattle.places.specs.declared.Kept.{Kept}
use Rattle.records.specs.Free.{all_zero}
use Rattle.records.specs.Tables.{kept}
use Rattle.records.specs.Asks.{instruction_meets}
use Rattle.records.specs.declared.InstructionAsk.TheVariants as Instructions
use Rattle.edits.specs.Edit.{ChangedAt, ChangedEach}
use Rattle.edits.proofs.Does.{each_by}
use Rattle.pending.specs.OnBytes.{started_by}
use Rattle.starting.specs.Days.{start_step, start_day}

-- ---- what the step makes of an instruction

pub made_by : (b : List ℕ) (day : ℕ) (k z x : Kept) (r : Result Kept Kept) → x ≡ result_unwrap_or r z → z ≡ zero_instruction
    → r ≡ started_by b k day → x ≡ start_step day b k
unfolding start_step
made_by b day k z x r e f g = rw (e, f, g)

-- ---- what the pass stores

module _ (csd day : ℕ) (made : List ℕ → Kept → Kept → Type 0) (does : (b : List ℕ) (x r : Kept) → made b x r → r ≡ start_step day b x) where
  started_at : (b b' : List ℕ) (i : ℕ) → ChangedAt kept instruction_at put_instruction csd (instruction_meets Instructions.Any) made b i b'
      → b' ≡ sweep_at kept csd (start_step day) b i
  unfolding sweep_at instruction_meets
  started_at b b' i h =
      cases (eqb (instruction_at b i).csd csd)
      (λ t. rw t (by_call (h.there (rw t))))
      (λ t. rw t (h.elsewhere (rw t)))
    where
      by_call : (r : Kept) × (made b (instruction_at b i) r × (b' ≡ put_instruction b i r))
          → b' ≡ put_instruction b i (start_step day b (instruction_at b i))
      by_call (r, (e, g)) = g ∙ ap (put_instruction b i) (does b (instruction_at b i) r e)

  pub day_started : (b b' : List ℕ) → ChangedEach kept instruction_at put_instruction csd (instruction_meets Instructions.Any) made b instruction_places b'
      → b' ≡ start_day csd day b
  unfolding start_day sweep_to
  day_started b b' =
      each_by kept instruction_at put_instruction csd (instruction_meets Instructions.Any) made b (sweep_to kept csd (start_step day) b) refl
      (λ n b'' h. started_at (sweep_to kept csd (start_step day) b n) b'' n h)
      instruction_places b'

-- ---- the table's own facts

kept_nobody : (r : Kept) → all_zero (instruction_numbers r) ≡ true → r.csd ≡ 0
unfolding all_zero every
kept_nobody r e = eqb-true r.csd 0 (search ands)

pub kept_lies : Lies kept
unfolding instruction_at put_instruction all_zero every
kept_lies = record { reads = λ b i. refl; stores = λ b i r. refl; nobody = kept_nobody; blank = refl; empty = refl }

pub day_size : (b : List ℕ) (csd day n : ℕ) → length (sweep_to kept csd (start_step day) b n) ≡ length b
day_size b csd day n = swept_size kept kept_lies csd (start_step day) b n
