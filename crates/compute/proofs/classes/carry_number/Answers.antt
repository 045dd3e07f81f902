-- `compute::classes::carry_number` meets its contract: the writer was handed the results, and no fault.
use Rattle.compute.proofs.Arms.{arm_number}
use Rattle.compute.proofs.classes.carry_number.Goals as goal

pub returns : goal.returns
returns c device local p =
    let a = c.args in
    arm_number a.shape a.x a.t p a.regs.now device local _ _ _ _ c.write_results.ensures c.requires c.no_faults-faults.ensures
    c.each-value.ensures
