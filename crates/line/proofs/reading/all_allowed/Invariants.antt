-- `line::reading::all_allowed` meets its contract.
use Rattle.meaning.specs.Fields.{allowed}
use Rattle.line.proofs.Loops.{EveryTo}
use Rattle.line.proofs.reading.all_allowed.Given as goal

abbrev pub invariant-loop-c : goal.invariant-loop-c
invariant-loop-c l = EveryTo allowed l.line l.good l.c-index
