-- W over the places of kept instructions, which stand behind the book of today (docs/LAYOUT.md). Stated here, proved in
-- proofs/Left. Assumes nothing.
use Rattle.std.specs.Prelude.{ℕ, ◌≤◌, ◌<◌, ◌≡◌, true, List, length, Result}
use Rattle.std.specs.Result.{result_unwrap_or}
use Rattle.tables.specs.Count.{every, sift}
use Rattle.tables.specs.Bytes.{byte_at}
use Rattle.tables.specs.Table.{end, list_of}
use Rattle.tables.specs.Sweep.{sweep_to}
use Rattle.meaning.specs.Records as M
use Rattle.meaning.specs.Forms.{holds, day as day_form}
use Rattle.meaning.specs.Sound.{kept_fits, sound_lone}
use Rattle.meaning.specs.Pending.{started}
use Rattle.places.specs.Layout.{instruction_places, zero_instruction}
use Rattle.places.specs.declared.Kept.{Kept}
use Rattle.records.specs.Tables.{kept}
use Rattle.book.specs.Lone.{lone_book}
use Rattle.pending.specs.OnBytes.{started_by}

-- the kept instructions of a depository
unfoldable pub instructions_of : ℕ → List ℕ → List M.Kept
instructions_of a b = list_of kept a b

-- a rejection at W cancels the instruction: its place is free
abbrev pub place_after : Result Kept Kept → Kept
place_after r = result_unwrap_or r zero_instruction

-- what W stores at the place of an instruction
unfoldable pub start_step : ℕ → List ℕ → Kept → Kept
start_step day b k = place_after (started_by b k day)

-- every place
unfoldable pub start_day : ℕ → ℕ → List ℕ → List ℕ
start_day csd day b = sweep_to kept csd (start_step day) b instruction_places

-- ---- in the written meaning

-- a depository whose lone book and whose kept instructions are sound, on a real day, over bytes that reach behind the
-- table
pub record Ready (csd day : ℕ) (b : List ℕ) : Type 0 where
  pub low : 1 ≤ csd
  pub high : csd ≤ 8
  pub real : holds day_form day ≡ true
  pub long : end kept ≤ length b
  pub bytes : (i : ℕ) → byte_at b i < 256
  pub lone : sound_lone (lone_book csd b) ≡ true
  pub fit : every kept_fits (instructions_of csd b) ≡ true

-- each of its instructions is what the meaning's start of day leaves of it; those of every other depository, and all
-- other records, stay
pub record Left (csd day : ℕ) (b b' : List ℕ) : Type 0 where
  pub size : length b' ≡ length b
  pub own : instructions_of csd b' ≡ sift (started (lone_book csd b) day) (instructions_of csd b)
  pub others : (a : ℕ) → 1 ≤ a → (csd ≡ a → ⊥) → instructions_of a b' ≡ instructions_of a b
  pub books : (a : ℕ) → lone_book a b' ≡ lone_book a b

-- W touches the kept instructions of its depository alone, and each as the meaning says.
abbrev pub StartsDay : Type 0
StartsDay = (csd day : ℕ) (b : List ℕ) → Ready csd day b → Left csd day b (start_day csd day b)
