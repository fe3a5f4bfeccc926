-- `line::forms::up_to` meets its contract.
use Rattle.std.proofs.Common.{rules}
use borrow.Author.Tests.{tests}
use mathlib.Core.Path.{◌≡◌}
use Rattle.meaning.specs.Text.{decimal}
use Rattle.meaning.specs.Fields.{within}
use Rattle.meaning.specs.Forms.{is_number, read}
use Rattle.line.proofs.Capped.{capped, high_within}
use Rattle.line.proofs.forms.up_to.Goals as goal

pub returns : goal.returns
unfolding read
returns c =
    let w : c.contains.result ≡ within 1 c.args.max c.decimal-n.result = search (rules, tests) in
    cc (w, capped (within 1 c.args.max) (high_within c.args.max c.requires) (is_number c.args.f.now) (decimal c.args.f.now))
