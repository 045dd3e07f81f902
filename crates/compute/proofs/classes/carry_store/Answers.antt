-- `compute::classes::carry_store` meets its contract, by cases of the memory.
use mathlib.Core.Path.{ap}
use Rattle.instructions.specs.declared.instr.Op.{Op}
use Rattle.compute.proofs.Standing.{ready_as}
use Rattle.compute.proofs.Arms.{arm_store_device, arm_store_local}
use Rattle.compute.proofs.classes.carry_store.Goals as goal

pub returns-in-Device : goal.returns-in-Device
returns-in-Device c p =
    let a = c.args in
    arm_store_device a.shape a.x a.t p a.regs.now a.device.now a.local.now
    (ready_as c.requires (ap Op.Store c.in-Device.is)) _ _ c.store_through.ensures

pub returns-in-Local : goal.returns-in-Local
returns-in-Local c p =
    let a = c.args in
    arm_store_local a.shape a.x a.t p a.regs.now a.device.now a.local.now
    (ready_as c.requires (ap Op.Store c.in-Local.is)) _ _ c.store_through-in-Local.ensures
