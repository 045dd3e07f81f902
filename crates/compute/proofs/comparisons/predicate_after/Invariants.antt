-- `compute::comparisons::predicate_after` meets its contract: at turn i the set has the lanes below i whose result is 1.
use mathlib.Core.Bool.{◌&&◌}
use lib.Dec.{eqb}
use lib.ListN.{get_or}
use Rattle.lanes.specs.Sets.{has}
use Rattle.lanes.proofs.Picking.{Marked}
use Rattle.compute.proofs.comparisons.predicate_after.Given as goal

abbrev pub invariant-loop-i : goal.invariant-loop-i
invariant-loop-i l = Marked l.fn.width.lanes (λ j. has l.t j && eqb (get_or l.results j 0) 1) l.set l.i
