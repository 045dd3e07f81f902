-- `compute::classes::carry_wave` meets its contract: the writer was handed the results of the registers read, and no fault.
use Rattle.compute.proofs.Arms.{arm_wave}
use Rattle.compute.proofs.classes.carry_wave.Goals as goal

pub returns : goal.returns
returns c device local p =
    let a = c.args in
    arm_wave a.shape a.x a.t p a.regs.now device local _ _ _ _ c.write_results.ensures a.op c.requires c.no_faults-faults.ensures
    _ c.gather-numbers.ensures c.wave_results-value.ensures
