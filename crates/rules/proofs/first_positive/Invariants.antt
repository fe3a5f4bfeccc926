-- What is found from a place on is what is found in all.
use Rattle.std.proofs.Common.{drop, ◌≡◌}
use Rattle.rules.specs.Search.{first_positive}
use Rattle.rules.proofs.first_positive.Given as goal

abbrev pub invariant-loop-place : goal.invariant-loop-place
invariant-loop-place l = first_positive (drop l.place-index l.rules) ≡ first_positive l.rules
