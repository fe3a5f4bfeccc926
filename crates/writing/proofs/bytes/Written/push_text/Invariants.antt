-- `writing::bytes::Written::push_text` meets its contract.
use Rattle.writing.proofs.Texts.{TextTo}
use Rattle.writing.proofs.bytes.Written.push_text.Given as goal

abbrev pub invariant-loop-c : goal.invariant-loop-c
invariant-loop-c l = TextTo l.initial.self l.text l.self l.c-index
