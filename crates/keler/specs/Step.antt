-- The step that writes a line of the KELER set into lent bytes (document 01, 'The KELER set'). Assumes nothing.
use Rattle.std.specs.Prelude.{ℕ, ◌≤◌, ◌<◌, ◌≡◌, Bool, ◌&&◌, List, ◌++◌, leb, length, drop, Option, Some, None, Result, Ok, Err}
use Rattle.meaning.specs.declared.Refusal.{Refusal}
use Rattle.meaning.specs.Fields.{within}
use Rattle.meaning.specs.Forms.{is_day}
use Rattle.meaning.specs.Keler.{keler_line, keler_refusal}

-- ---- the promise

-- the line's length where nothing is refused, else the refusal
abbrev pub result_of : Option Refusal → List ℕ → Result ℕ Refusal
result_of None line = Ok (length line)
result_of (Some r) line = Err r

-- the line and the bytes that stood after it where nothing is refused, else the bytes that stood there
abbrev pub bytes_of : Option Refusal → List ℕ → List ℕ → List ℕ
bytes_of None line before = line ++ drop (length line) before
bytes_of (Some r) line before = before

-- The step, lent the bytes `before`, returns r and leaves the bytes `after`.
pub record Steps (number csd day first last : ℕ) (before : List ℕ) (r : Result ℕ Refusal) (after : List ℕ) : Type 0 where
  pub result : r ≡ result_of (keler_refusal number csd day first last (length before)) (keler_line number csd day first last)
  pub bytes : after ≡ bytes_of (keler_refusal number csd day first last (length before)) (keler_line number csd day first last) before
  -- a line has 7 to 80 bytes
  pub long : keler_refusal number csd day first last (length before) ≡ None → 6 < length (keler_line number csd day first last)
  pub short : keler_refusal number csd day first last (length before) ≡ None → length (keler_line number csd day first last) ≤ 80

-- ---- its parts

-- the condition of refusal 5 does not hold
unfoldable pub admitted : ℕ → ℕ → ℕ → ℕ → ℕ → ℕ → Bool
admitted number csd day first last space =
    within 1 55 number && within 1 8 csd && is_day day && is_day first && is_day last && leb first last && leb 80 space

-- putting the line w in front of the bytes `before` returns r and leaves the bytes `after`
pub record Puts (w before : List ℕ) (r : ℕ) (after : List ℕ) : Type 0 where
  pub count : r ≡ length w
  pub bytes : after ≡ w ++ drop (length w) before
