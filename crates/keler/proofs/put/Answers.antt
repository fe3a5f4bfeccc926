-- The line's bytes and those after it: named, so that a wrong byte is refused for certain.
use Rattle.std.proofs.Common.{◌≡◌, List, ◌++◌, drop, ℕ}
use mathlib.Core.Path.{ap}
use lib.ListN.{length}
use Rattle.keler.proofs.put.Goals as goal

-- the bytes of a line in front of those that stood after them
in_front : {s bytes line : List ℕ} (before : List ℕ) → s ≡ bytes → bytes ≡ line
    → s ++ drop (length bytes) before ≡ line ++ drop (length line) before
in_front before e f = rw (e, f)

pub returns : goal.returns
returns c = record {
  count = ap length c.as_slice-bytes.ensures.bytes;
  bytes = in_front c.args.out.now c.copy_from_slice.ensures.after c.as_slice-bytes.ensures.bytes;
}
