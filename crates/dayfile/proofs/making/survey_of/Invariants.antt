-- The invariant: the survey of what is left, from where the loop stands, is the survey of all.
use Rattle.dayfile.specs.Day.{page}
use Rattle.dayfile.proofs.Surveys.{Surveying}
use Rattle.dayfile.proofs.making.survey_of.Given as goal

abbrev pub invariant-loop-n : goal.invariant-loop-n
invariant-loop-n l = Surveying page l.bodies l.at l.n
