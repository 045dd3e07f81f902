-- Each instruction is its own rule's function; only BARRIER has lanes of a fault.
use Rattle.std.proofs.Common.{refl}
use Rattle.instructions.specs.declared.instr.ControlOp.TheVariants.{If, Else, Endif, Loop, Break, Continue, Endloop, Halt, Nop}
use Rattle.control.specs.Control.{control_rule, fault_lanes}
use Rattle.control.proofs.Ruling.{by_rule}
use Rattle.control.proofs.control.Goals as goal

pub returns-in-If : goal.returns-in-If
unfolding control_rule fault_lanes
returns-in-If c = let a = c.args in by_rule a.op If a.all a.t a.h _ a.blocks.now _ c.in-If.is c.if_rule.ensures refl

pub returns-in-Else : goal.returns-in-Else
unfolding control_rule fault_lanes
returns-in-Else c = let a = c.args in by_rule a.op Else a.all a.t a.h _ a.blocks.now _ c.in-Else.is c.else_rule.ensures refl

pub returns-in-Endif : goal.returns-in-Endif
unfolding control_rule fault_lanes
returns-in-Endif c = let a = c.args in by_rule a.op Endif a.all a.t a.h _ a.blocks.now _ c.in-Endif.is c.endif_rule.ensures refl

pub returns-in-Loop : goal.returns-in-Loop
unfolding control_rule fault_lanes
returns-in-Loop c = let a = c.args in by_rule a.op Loop a.all a.t a.h _ a.blocks.now _ c.in-Loop.is c.loop_rule.ensures refl

pub returns-in-Break : goal.returns-in-Break
unfolding control_rule fault_lanes
returns-in-Break c = let a = c.args in by_rule a.op Break a.all a.t a.h _ a.blocks.now _ c.in-Break.is c.break_rule.ensures refl

pub returns-in-Continue : goal.returns-in-Continue
unfolding control_rule fault_lanes
returns-in-Continue c = let a = c.args in by_rule a.op Continue a.all a.t a.h _ a.blocks.now _ c.in-Continue.is c.continue_rule.ensures refl

pub returns-in-Endloop : goal.returns-in-Endloop
unfolding control_rule fault_lanes
returns-in-Endloop c = let a = c.args in by_rule a.op Endloop a.all a.t a.h _ a.blocks.now _ c.in-Endloop.is c.endloop_rule.ensures refl

pub returns-in-Halt : goal.returns-in-Halt
unfolding control_rule fault_lanes
returns-in-Halt c = let a = c.args in by_rule a.op Halt a.all a.t a.h _ a.blocks.now _ c.in-Halt.is c.halt_rule.ensures refl

pub returns-in-Barrier : goal.returns-in-Barrier
unfolding control_rule fault_lanes
returns-in-Barrier c = rw c.in-Barrier.is c.barrier_rule.ensures

pub returns-in-Nop : goal.returns-in-Nop
unfolding control_rule fault_lanes
returns-in-Nop c = let a = c.args in by_rule a.op Nop a.all a.t a.h _ a.blocks.now _ c.in-Nop.is c.onward.ensures refl
