-- `desk::Spaces::answer_all` meets its contract.
use Rattle.desk.proofs.Looping.{Going}
use Rattle.desk.proofs.Spaces.answer_all.Given as goal

abbrev pub invariant-loop : goal.invariant-loop
invariant-loop g l = Going l.initial.self.book l.initial.self.text l.self.book l.self.text l.desk
