-- `compute::classes::carry_two` meets its contract: the writer was handed the results and the faults of the operation.
use Rattle.compute.proofs.Arms.{arm_two}
use Rattle.compute.proofs.classes.carry_two.Goals as goal

pub returns : goal.returns
returns c device local p =
    let a = c.args in
    arm_two a.shape a.x a.t p a.regs.now device local _ _ _ _ c.write_results.ensures a.op c.requires c.dividing_faults-faults.ensures
    c.two_results-value.ensures
