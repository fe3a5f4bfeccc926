-- `line::forms::code` meets its contract.
use Rattle.meaning.specs.Text.{decimal}
use Rattle.meaning.specs.Forms.{is_code, is_number, read}
use Rattle.line.proofs.Capped.{capped, high_code}
use Rattle.line.proofs.forms.code.Goals as goal

pub returns : goal.returns
unfolding read
returns c = let f = c.args.f.now in cc (capped is_code high_code (is_number f) (decimal f))
