-- What a caller of `keler_line` learns: an `Err` is the refusal, and an `Ok` the length of the line.
use Prim.Native.Nat.{ℕ}
use mathlib.Core.Path.{◌≡◌}
use mathlib.Core.List.{List, ◌++◌}
use lib.ListN.{length, drop}
use Rattle.std.specs.Prelude.{Option, Some, None, Ok, Err}
use Rattle.meaning.specs.declared.Refusal.{Refusal}
use Rattle.meaning.specs.Keler.{keler_line, keler_refusal}
use Rattle.keler.specs.Step.{result_of, bytes_of, Steps}

err_is : (k : Option Refusal) (line before : List ℕ) {x : Refusal} {after : List ℕ} → Err x ≡ result_of k line → after ≡ bytes_of k line before
    → (k ≡ Some x) × (after ≡ before)
err_is None line before e f = cc
err_is (Some y) line before e f = (cc, f)

ok_is : (k : Option Refusal) (line before : List ℕ) {n : ℕ} {after : List ℕ} → Ok n ≡ result_of k line → after ≡ bytes_of k line before
    → (n ≡ length line) × (after ≡ line ++ drop (length line) before)
ok_is None line before e f = (cc, f)
ok_is (Some y) line before e f = cc

module _ {number csd day first last : ℕ} {before after : List ℕ} where
  pub is_refused : {x : Refusal} → Steps number csd day first last before (Err x) after
      → (keler_refusal number csd day first last (length before) ≡ Some x) × (after ≡ before)
  is_refused s = err_is (keler_refusal number csd day first last (length before)) (keler_line number csd day first last) before s.result s.bytes

  pub is_written : {n : ℕ} → Steps number csd day first last before (Ok n) after
      → (n ≡ length (keler_line number csd day first last))
      × (after ≡ keler_line number csd day first last ++ drop (length (keler_line number csd day first last)) before)
  is_written s = ok_is (keler_refusal number csd day first last (length before)) (keler_line number csd day first last) before s.result s.bytes
