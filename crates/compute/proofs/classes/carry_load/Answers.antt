-- `compute::classes::carry_load` meets its contract, by cases of the memory.
use mathlib.Core.Path.{ap}
use Rattle.instructions.specs.declared.instr.Space.{Space}
use Rattle.instructions.specs.declared.instr.Op.{Op}
use Rattle.compute.proofs.Standing.{ready_as}
use Rattle.compute.proofs.Arms.{arm_load}
use Rattle.compute.proofs.classes.carry_load.Goals as goal

pub returns-in-Device : goal.returns-in-Device
returns-in-Device c p =
    let a = c.args in
    arm_load a.shape a.x a.t p a.regs.now a.device.now a.local.now Space.Device
    (ready_as c.requires (ap Op.Load c.in-Device.is)) _ _ c.load_through.ensures

pub returns-in-Local : goal.returns-in-Local
returns-in-Local c p =
    let a = c.args in
    arm_load a.shape a.x a.t p a.regs.now a.device.now a.local.now Space.Local
    (ready_as c.requires (ap Op.Load c.in-Local.is)) _ _ c.load_through-in-Local.ensures
