-- `compute::registers::write_some_lanes` meets its contract: at turn i the lanes below i have had their turns.
use native.Mathlib.Omega.{arith}
use Rattle.ground.proofs.Turns.{turned_none, turned_more, turned_all}
use Rattle.compute.specs.Registers.{write_lanes}
use Rattle.compute.proofs.Slots.{slot_in_lem}
use Rattle.compute.proofs.Writing.{write_inside, write_turn_lem}
use Rattle.compute.proofs.registers.write_some_lanes.Goals as goal

pub loop-i-init : goal.loop-i-init
loop-i-init c = turned_none _ _

pub offset_bounds-regs-at : goal.offset_bounds-regs-at
offset_bounds-regs-at c = omega (arith, slot_in_lem c.requires _ _ c.slot-at.ensures (omega arith))

pub bounds-regs-at : goal.bounds-regs-at
bounds-regs-at c = write_inside c.requires _ _ c.loop-i.invariant _ _ c.slot-at.ensures (omega arith)

pub offset_bounds-regs-at-in-loop-i : goal.offset_bounds-regs-at-in-loop-i
offset_bounds-regs-at-in-loop-i c = omega (arith, slot_in_lem c.requires _ _ c.slot-at.ensures (omega arith))

pub bounds-regs-at-in-loop-i : goal.bounds-regs-at-in-loop-i
bounds-regs-at-in-loop-i c = write_inside c.requires _ _ c.loop-i.invariant _ _ c.slot-at.ensures (omega arith)

pub loop-i-preserved : goal.loop-i-preserved
loop-i-preserved c =
    let a = c.args in
    let h = c.loop-i in
    turned_more h.invariant (omega arith) _
    (write_turn_lem a.shape a.rd a.t a.results.now _ h.regs _ _ _ c.slot-at.ensures c.picks.ensures c.chosen.ensures)

pub returns : goal.returns
unfolding write_lanes
returns c = turned_all c.loop-i.invariant (omega arith)
