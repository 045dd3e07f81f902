-- `lanes::each` meets its contract: at turn i the lanes below i have the number.
use Rattle.lanes.proofs.Filling.{Filled}
use Rattle.lanes.proofs.each.Given as goal

abbrev pub invariant-loop-i : goal.invariant-loop-i
invariant-loop-i l = Filled l.end (λ j. l.number) l.out l.i
