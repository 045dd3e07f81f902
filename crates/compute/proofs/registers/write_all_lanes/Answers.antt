-- `compute::registers::write_all_lanes` meets its contract: at turn i the lanes below i have had their turns, and each wrote.
use native.Mathlib.Omega.{arith}
use Rattle.ground.proofs.Turns.{turned_none, turned_more, turned_all}
use Rattle.compute.specs.Registers.{write_lanes}
use Rattle.compute.proofs.Slots.{slot_in_lem}
use Rattle.compute.proofs.Writing.{write_inside, write_turn_all}
use Rattle.compute.proofs.registers.write_all_lanes.Goals as goal

pub loop-i-init : goal.loop-i-init
loop-i-init c = turned_none _ _

pub offset_bounds-regs-slot : goal.offset_bounds-regs-slot
offset_bounds-regs-slot c = omega (arith, slot_in_lem c.requires _ _ c.slot.ensures (omega arith))

pub bounds-regs-slot : goal.bounds-regs-slot
bounds-regs-slot c = write_inside c.requires _ _ c.loop-i.invariant _ _ c.slot.ensures (omega arith)

pub loop-i-preserved : goal.loop-i-preserved
loop-i-preserved c =
    let a = c.args in
    let h = c.loop-i in
    turned_more h.invariant (omega arith) _
    (write_turn_all a.shape a.rd a.results.now h.i h.regs _ c.slot.ensures (omega arith))

pub returns : goal.returns
unfolding write_lanes
returns c = turned_all c.loop-i.invariant (omega arith)
