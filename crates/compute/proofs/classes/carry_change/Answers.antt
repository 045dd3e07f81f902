-- `compute::classes::carry_change` meets its contract: the atomics at the addresses and the old words written, by what `is_clear` told of
-- the faults.
use native.Mathlib.Omega.{arith}
use Rattle.compute.proofs.Arms.{arm_change, arm_unchanged}
use Rattle.compute.proofs.classes.carry_change.Goals as goal

pub returns-then-is_clear : goal.returns-then-is_clear
returns-then-is_clear c local p =
    let a = c.args in
    arm_change a.shape a.x a.t p a.regs.now a.device.now local a.change c.requires _ c.desired-rs3.ensures _ c.gather-at.ensures
    _ (λ k. omega (arith, c.slice_known-1.given k)) c.address_faults-faults.ensures _ c.is_clear.ensures _ _ _ _ c.if-is_clear.true c.change_lanes-value.ensures.found
    c.change_lanes-value.ensures.left c.write_results.ensures

pub returns : goal.returns
returns c local p =
    let a = c.args in
    arm_unchanged a.shape a.x a.t p a.regs.now a.device.now local a.change c.requires _ c.desired-rs3.ensures _
    c.gather-at.ensures _ (λ k. omega (arith, c.slice_known-1.given k)) c.address_faults-faults.ensures _ c.is_clear.ensures c.if-is_clear.false
