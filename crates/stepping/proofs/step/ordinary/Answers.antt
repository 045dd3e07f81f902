-- On by the instruction's words where no lane faults; and else as before it.
use mathlib.Core.Path.{sym, ◌∙◌}
use Rattle.stepping.proofs.Stepping.{ordinary_on, ordinary_off}
use Rattle.stepping.proofs.step.ordinary.Goals as goal

pub returns-then-is_clear-clause-machine : goal.returns-then-is_clear-clause-machine
returns-then-is_clear-clause-machine c blocks =
    let a = c.args in
    ordinary_on a.settings a.x a.t a.h a.regs.now a.device.now a.local.now c.carry_out-c.result c.named_set-predicate.ensures c.carry_out-c.ensures blocks
    (sym c.is_clear.ensures ∙ c.if-is_clear.true) c.onward_by-n.ensures c.with_named.ensures

pub returns-clause-machine : goal.returns-clause-machine
returns-clause-machine c blocks =
    let a = c.args in
    ordinary_off a.settings a.x a.t a.h a.regs.now a.device.now a.local.now c.carry_out-c.result c.named_set-predicate.ensures c.carry_out-c.ensures blocks
    (sym c.is_clear.ensures ∙ c.if-is_clear.false)
