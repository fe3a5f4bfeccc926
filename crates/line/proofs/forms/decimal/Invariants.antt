-- `line::forms::decimal` meets its contract.
use Rattle.line.proofs.Loops.{DecimalTo}
use Rattle.line.proofs.forms.decimal.Given as goal

abbrev pub invariant-loop-c : goal.invariant-loop-c
invariant-loop-c l = DecimalTo l.f l.n l.c-index
