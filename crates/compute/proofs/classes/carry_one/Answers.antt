-- `compute::classes::carry_one` meets its contract: the writer was handed the results, and no fault.
use Rattle.compute.proofs.Arms.{arm_one}
use Rattle.compute.proofs.classes.carry_one.Goals as goal

pub returns : goal.returns
returns c device local p =
    let a = c.args in
    arm_one a.shape a.x a.t p a.regs.now device local _ _ _ _ c.write_results.ensures a.op c.requires c.no_faults-faults.ensures
    c.one_results-value.ensures
