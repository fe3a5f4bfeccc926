-- `writing::bytes::Written::push_numbers` meets its contract.
use Rattle.writing.proofs.Texts.{ListTo}
use Rattle.writing.proofs.bytes.Written.push_numbers.Given as goal

abbrev pub invariant-loop-n : goal.invariant-loop-n
invariant-loop-n l = ListTo l.initial.self l.numbers l.self l.n-index
