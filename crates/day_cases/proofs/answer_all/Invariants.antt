-- What is left gets shorter.
use lib.ListN.{length}
use Rattle.day_cases.proofs.answer_all.Given as goal

abbrev pub decreases-loop-rest : goal.decreases-loop-rest
decreases-loop-rest l = length l.rest
