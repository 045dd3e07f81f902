-- `compute::memory::change_lanes` meets its contract: the lanes take their turns from the lowest on, and what each found stands in the
-- answer.
use Rattle.compute.specs.Lanewise.{change_to}
use Rattle.compute.proofs.Walking.{Walked}
use Rattle.compute.proofs.memory.change_lanes.Given as goal

abbrev pub invariant-loop-rest : goal.invariant-loop-rest
invariant-loop-rest l =
    Walked l.bank.shape.width l.at (change_to l.change l.bank.shape l.bank.regs.now l.rs2 l.rs3) l.t l.initial.memory l.memory l.out l.rest

abbrev pub decreases-loop-rest : goal.decreases-loop-rest
decreases-loop-rest l = l.rest
