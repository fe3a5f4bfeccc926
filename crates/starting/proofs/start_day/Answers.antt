-- `starting::start_day` meets its contract. Assumes nothing.
use Rattle.std.proofs.Common.{rules}
use Rattle.starting.proofs.Started.{day_started}
use Rattle.starting.proofs.start_day.Goals as goal

pub returns : goal.returns
returns c = day_started c.args.csd c.args.day _ (λ b x r e. search rules) c.args.b.now _ c.change_each.ensures
