-- `writing::whole::write_row` meets its contract.
use mathlib.Core.Path.{ap, ◌∙◌}
use Rattle.meaning.specs.Writing.{written}
use Rattle.writing.specs.Written.{written_as}
use Rattle.writing.proofs.whole.write_row.Goals as goal

pub returns : goal.returns
returns c = c.write_line.ensures ∙ ap (λ s. written_as (written s c.args.numbers.now)) c.from.ensures
