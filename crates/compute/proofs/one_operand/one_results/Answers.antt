-- `compute::one_operand::one_results` meets its contract: each arm hands its operation to the loop.
use Rattle.std.proofs.Common.{rules}
use Rattle.instructions.specs.declared.instr.OneOp.{OneOp}
use Rattle.arith.specs.Arith.{one_of}
use Rattle.compute.specs.Lanewise.{one_lanes}
use Rattle.compute.proofs.one_operand.one_results.Goals as goal

pub returns-in-Neg : goal.returns-in-Neg
unfolding one_lanes
returns-in-Neg c = rw c.in-Neg.is (c.one_lanes.ensures (one_of OneOp.Neg) (λ a r x e. search rules))

pub returns-in-Abs : goal.returns-in-Abs
unfolding one_lanes
returns-in-Abs c = rw c.in-Abs.is (c.one_lanes-in-Abs.ensures (one_of OneOp.Abs) (λ a r x e. search rules))

pub returns-in-Not : goal.returns-in-Not
unfolding one_lanes
returns-in-Not c = rw c.in-Not.is (c.one_lanes-in-Not.ensures (one_of OneOp.Not) (λ a r x e. search rules))

pub returns-in-Popcnt : goal.returns-in-Popcnt
unfolding one_lanes
returns-in-Popcnt c = rw c.in-Popcnt.is (c.one_lanes-in-Popcnt.ensures (one_of OneOp.Popcnt) (λ a r x e. search rules))

pub returns-in-Mov : goal.returns-in-Mov
unfolding one_lanes
returns-in-Mov c = rw c.in-Mov.is (c.one_lanes-in-Mov.ensures (one_of OneOp.Mov) (λ a r x e. search rules))
