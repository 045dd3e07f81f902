-- `compute::classes::carry_shuffle` meets its contract: the writer was handed the results of the registers read, and no fault.
use Rattle.compute.proofs.Arms.{arm_shuffle}
use Rattle.compute.proofs.classes.carry_shuffle.Goals as goal

pub returns : goal.returns
returns c device local p =
    let a = c.args in
    arm_shuffle a.shape a.x a.t p a.regs.now device local _ _ _ _ c.write_results.ensures c.requires c.no_faults-faults.ensures _ _
    c.gather-numbers.ensures c.gather-named.ensures c.shuffle_results-value.ensures
