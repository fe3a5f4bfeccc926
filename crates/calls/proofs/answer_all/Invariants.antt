-- `calls::answer_all` stays in the calls.
use Rattle.std.proofs.Common.{◌≤◌, length}
use Rattle.calls.proofs.answer_all.Given as goal

abbrev pub invariant-loop : goal.invariant-loop
invariant-loop g l = l.held ≤ length l.calls
