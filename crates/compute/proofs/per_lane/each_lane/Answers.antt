-- `compute::per_lane::each_lane` meets its contract: at turn i the lanes below i have their answers.
use native.Mathlib.Omega.{arith}
use Rattle.lanes.proofs.Filling.{filled_none, filled_more, filled_all}
use Rattle.compute.proofs.per_lane.each_lane.Goals as goal

pub loop-i-init : goal.loop-i-init
loop-i-init g c h is = filled_none h c.args.width.narrow

pub loop-i-preserved : goal.loop-i-preserved
loop-i-preserved g c h is =
    filled_more (c.loop-i.invariant h is) (omega arith) _ (is _ _ (omega arith) c.f.ensures)

pub returns : goal.returns
returns g c h is = filled_all (c.loop-i.invariant h is) (omega arith)
