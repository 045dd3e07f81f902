-- `compute::carry_class` meets its contract: each class has carried out its instructions, whatever the predicate; a comparison is none of
-- them, and control does nothing.
use Rattle.compute.proofs.Arms.{arm_control}
use Rattle.compute.proofs.carry_class.Goals as goal

pub returns-in-Control : goal.returns-in-Control
returns-in-Control c p =
    let a = c.args in
    arm_control a.shape a.x a.t p a.regs.now a.device.now a.local.now _ c.in-Control.is _ c.no_faults-in-Control.ensures
