-- `ranges::three_letters` meets its contract. Assumes nothing.
use Rattle.std.proofs.Common.{◌≡◌, ◌/◌, ◌%◌, arith}
use Rattle.ranges.proofs.three_letters.Goals as goal

pub returns : goal.returns
returns c =
    let second : c.args.n / 65536 % 256 ≡ c.args.n / 256 / 256 % 256 = omega arith in
    let above : c.args.n / 16777216 % 256 ≡ c.args.n / 256 / 256 / 256 = omega arith in
    rw (c.is_ascii_uppercase.ensures.value, c.is_ascii_uppercase-2.ensures.value, c.is_ascii_uppercase-3.ensures.value, c.to_le_bytes.ensures, second, above)
