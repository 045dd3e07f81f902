-- `faulting::picking::lanes_where` meets its contract: at each turn the set has the lanes below whose number passes.
use mathlib.Core.Path.{ap₂}
use mathlib.Core.Bool.{◌&&◌}
use native.Mathlib.Omega.{arith}
use lib.ListN.{get_or}
use Rattle.std.proofs.Common.{Fits, w32, rules}
use Rattle.lanes.proofs.Picking.{marked_none, picked_more, marked_all}
use Rattle.faulting.proofs.picking.lanes_where.Goals as goal

pub loop-lane-init : goal.loop-lane-init
loop-lane-init g c p asks = marked_none _

pub loop-lane-preserved : goal.loop-lane-preserved
loop-lane-preserved g c p asks =
    picked_more (c.loop-lane.invariant p asks) c.loop-lane-test.true c.args.width.narrow _ _ _ c.union-set.ensures c.only.ensures
    (ap₂ ◌&&◌ c.has.ensures (asks _ _ (let f : Fits w32 (get_or c.args.numbers.now c.loop-lane.lane 0) = search rules in f.fits) c.test-passes.ensures))

pub returns : goal.returns
returns g c p asks = marked_all (c.loop-lane.invariant p asks) (omega arith)
