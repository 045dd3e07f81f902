-- The invariant: the first equal record is not among those passed, so it is the first among the rest.
use Rattle.dayfile.specs.Day.{page, bodies_of}
use Rattle.records.proofs.Records.{Seeking}
use Rattle.records.proofs.day.DayFile.first_same.Given as goal

abbrev pub invariant-loop-k : goal.invariant-loop-k
invariant-loop-k l = Seeking (bodies_of page l.self.bytes.now) l.i l.k
