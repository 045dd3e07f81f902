-- `across::sources::Sources::nonzero_lanes` meets its contract: at each turn the set has the executing lanes below whose number isn't 0.
use mathlib.Core.Bool.{not, ◌&&◌}
use lib.Dec.{eqb}
use lib.ListN.{get_or}
use Rattle.lanes.specs.Sets.{has}
use Rattle.lanes.proofs.Picking.{Marked}
use Rattle.across.proofs.sources.Sources.nonzero_lanes.Given as goal

abbrev pub invariant-loop-lane : goal.invariant-loop-lane
invariant-loop-lane l = Marked l.lane-end (λ j. has l.self.t j && not (eqb (get_or l.self.numbers.now j 0) 0)) l.set l.lane
