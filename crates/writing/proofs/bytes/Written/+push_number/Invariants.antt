-- A number's tenth is less than the number.
use Rattle.writing.proofs.bytes.Written.+push_number.Given as goal

abbrev pub decreases-push_number : goal.decreases-push_number
decreases-push_number l = l.n
