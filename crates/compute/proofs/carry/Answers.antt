-- `compute::carry` meets its contract: a comparison by the law of its class; every other instruction, with none of the comparisons' tags, by
-- `carry_class`, with the predicate as it was.
use Rattle.compute.proofs.Arms.{arm_compare}
use Rattle.compute.proofs.carry.Goals as goal

pub returns : goal.returns
returns c =
    let a = c.args in
    arm_compare a.shape a.x a.t a.predicate a.regs.now a.device.now a.local.now _
    c.in-Compare.is _ _ _ c.no_faults.ensures
    c.compare_results-results.ensures c.predicate_after.ensures
