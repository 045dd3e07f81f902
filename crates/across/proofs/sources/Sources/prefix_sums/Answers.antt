-- `across::sources::Sources::prefix_sums` meets its contract: at each turn the lanes below have their sums, and that of the lane is beside them.
use native.Mathlib.Omega.{arith}
use Rattle.lanes.proofs.Filling.{filled_none, filled_more, filled_all}
use Rattle.instructions.specs.declared.instr.TwoOp.{TwoOp}
use Rattle.across.proofs.Folding.{fold_none, fold_more}
use Rattle.across.proofs.sources.Sources.prefix_sums.Goals as goal

pub loop-lane-init : goal.loop-lane-init
loop-lane-init c = (filled_none _ c.args.self.now.width.narrow, fold_none TwoOp.Add 0 _ _)

pub loop-lane-preserved : goal.loop-lane-preserved
loop-lane-preserved c =
    let h = c.loop-lane.invariant in
    (filled_more h.0 c.loop-lane-test.true _ h.1, fold_more TwoOp.Add 0 _ _ _ _ _ _ h.1 c.bring.ensures c.add-below.ensures)

pub returns : goal.returns
returns c = filled_all c.loop-lane.invariant.0 (omega arith)
