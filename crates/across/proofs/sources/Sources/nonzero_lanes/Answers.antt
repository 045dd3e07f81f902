-- `across::sources::Sources::nonzero_lanes` meets its contract: at each turn the set has the executing lanes below whose number isn't 0.
use mathlib.Core.Path.{ap}
use mathlib.Core.Bool.{Bool, not, ◌&&◌}
use native.Mathlib.Omega.{arith}
use lib.Dec.{eqb}
use lib.ListN.{get_or}
use Rattle.lanes.proofs.Picking.{marked_none, picked_more, marked_all}
use Rattle.across.specs.Across.{nonzero}
use Rattle.across.proofs.sources.Sources.nonzero_lanes.Goals as goal

pub loop-lane-init : goal.loop-lane-init
loop-lane-init c = marked_none _

pub loop-lane-preserved : goal.loop-lane-preserved
loop-lane-preserved c =
    picked_more c.loop-lane.invariant c.loop-lane-test.true c.args.self.now.width.narrow _ _ _ c.union-set.ensures c.only.ensures
    (ap (λ (p : Bool). p && not (eqb (get_or c.args.self.now.numbers.now c.loop-lane.lane 0) 0)) c.has.ensures)

pub returns : goal.returns
unfolding nonzero
returns c = marked_all c.loop-lane.invariant (omega arith)
