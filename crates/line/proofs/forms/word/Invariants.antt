-- `line::forms::word` meets its contract.
use Rattle.line.proofs.Loops.{WordTo}
use Rattle.line.proofs.forms.word.Given as goal

abbrev pub invariant-loop-c : goal.invariant-loop-c
invariant-loop-c l = WordTo l.f l.n l.c-index
