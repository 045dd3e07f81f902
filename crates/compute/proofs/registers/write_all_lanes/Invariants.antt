-- `compute::registers::write_all_lanes` meets its contract: at turn i the lanes below i have had their turns, and each wrote.
use Rattle.ground.proofs.Turns.{Turned}
use Rattle.lanes.specs.Sets.{first}
use Rattle.compute.specs.Registers.{write_turn}
use Rattle.compute.proofs.registers.write_all_lanes.Given as goal

abbrev pub invariant-loop-i : goal.invariant-loop-i
invariant-loop-i l = Turned l.shape.width (write_turn l.shape l.rd (first l.shape.width) l.results) l.initial.regs l.regs l.i
