-- The invariant: the walk that is left, from where the loop stands, answers for all.
use Rattle.dayfile.specs.Day.{page}
use Rattle.records.proofs.Walks.{Walking}
use Rattle.records.proofs.accepting.holds.Given as goal

abbrev pub invariant-loop-k : goal.invariant-loop-k
invariant-loop-k l = Walking page l.file l.n l.k l.p
