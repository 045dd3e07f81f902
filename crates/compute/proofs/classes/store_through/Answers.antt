-- `compute::classes::store_through` meets its contract: the stores at the addresses, by what `is_clear` told of their faults.
use mathlib.Core.Path.{ap, ◌∙◌}
use mathlib.Core.List.{List}
use Prim.Native.Nat.{ℕ}
use native.Mathlib.Omega.{arith}
use lib.ListN.{get_or}
use Rattle.compute.specs.Registers.{gather_of}
use Rattle.compute.specs.Memory.{changes_of}
use Rattle.compute.proofs.Standing.{ready_narrow}
use Rattle.compute.proofs.Addressing.{reach_told}
use Rattle.compute.proofs.Settling.{settled_changed, settled_same}
use Rattle.compute.proofs.classes.store_through.Goals as goal

pub returns-then-is_clear : goal.returns-then-is_clear
returns-then-is_clear c =
    let a = c.args in
    settled_changed _ _ _
    (reach_told a.space a.shape a.regs.now (λ k. omega (arith, c.type_inv.regs k)) (ready_narrow c.requires) a.x a.t a.memory.now (omega arith) _
    c.addresses-at.ensures _ c.address_faults-faults.ensures)
    c.is_clear.ensures _ _ _ c.if-is_clear.true
    (c.store_lanes.ensures
    ∙ ap (λ (at : List ℕ). changes_of a.shape.width at (λ i old. get_or (gather_of a.shape a.regs.now a.x.rd) i 0) a.t a.memory.now)
    c.addresses-at.ensures)

pub returns-else-is_clear : goal.returns-else-is_clear
returns-else-is_clear c =
    let a = c.args in
    settled_same _ _ _
    (reach_told a.space a.shape a.regs.now (λ k. omega (arith, c.type_inv.regs k)) (ready_narrow c.requires) a.x a.t a.memory.now (omega arith) _
    c.addresses-at.ensures _ c.address_faults-faults.ensures)
    c.is_clear.ensures _ _ c.if-is_clear.false
