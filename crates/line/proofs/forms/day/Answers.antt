-- `line::forms::day` meets its contract.
use mathlib.Core.Bool.{◌&&◌}
use lib.Dec.{eqb}
use lib.ListN.{length}
use Rattle.meaning.specs.Text.{decimal}
use Rattle.meaning.specs.Forms.{is_day, is_number, read}
use Rattle.line.proofs.Capped.{capped, high_day}
use Rattle.line.proofs.forms.day.Goals as goal

pub returns : goal.returns
unfolding read
returns c = let f = c.args.f.now in cc (capped is_day high_day (eqb (length f) 8 && is_number f) (decimal f))
