-- `line_main::show_lines` ends.
use Rattle.std.proofs.Common.{◌-◌, length}
use Rattle.line_main.proofs.show_lines.Given as goal

abbrev pub decreases-loop-at : goal.decreases-loop-at
decreases-loop-at g l = length l.text - l.at
