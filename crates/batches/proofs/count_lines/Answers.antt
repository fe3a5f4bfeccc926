-- `batches::count_lines` meets its contract. Assumes nothing.
use mathlib.Core.Path.{◌≡◌, ap, ◌∙◌}
use lib.ListN.{length-take}
use Rattle.std.proofs.lemmas.Iterator.{YieldsList-from_take}
use Rattle.std.proofs.lemmas.Iterator.Consumers.{count_from_yields_List, YieldsList-from_first}
use Rattle.meaning.specs.Desk.{lines_of}
use Rattle.batches.specs.Left.{lines_left}
use Rattle.batches.proofs.count_lines.Goals as goal

pub returns : goal.returns
returns c =
    let all = lines_of c.args.text.now in
    let first : lines_left c.new.result ≡ all = rw (c.new.ensures.0, c.new.ensures.1) in
    let left : lines_left c.take.result.iter ≡ all = ap lines_left c.take.ensures.source ∙ first in
    count_from_yields_List _ c.count.result c.count.ensures.ran
    (YieldsList-from_take 65 (YieldsList-from_first (λ x. x.now) lines_left all left) c.take.ensures.count)
    ∙ length-take 65 all
