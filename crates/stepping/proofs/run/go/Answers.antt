-- What is left to do from the machine that the loop has reached is the run, and the buffers keep their lengths.
use mathlib.Core.Path.{refl, sym, ◌∙◌}
use Rattle.stepping.proofs.Turns.{start, ends, spends, turn, faults, goes}
use Rattle.stepping.proofs.run.go.Goals as goal

pub loop-settings-init : goal.loop-settings-init
loop-settings-init c = start _ _ _ _

pub returns-then-has_ended : goal.returns-then-has_ended
returns-then-has_ended c = ends c.loop-settings.invariant (sym c.has_ended.ensures ∙ c.if-has_ended.true)

pub returns-then-steps-budget : goal.returns-then-steps-budget
returns-then-steps-budget c =
    spends c.loop-settings.invariant (sym c.has_ended.ensures ∙ c.if-has_ended.false) c.if-steps-budget.true

pub returns-in-Err : goal.returns-in-Err
returns-in-Err c =
    let long = c.step.auto in
    faults
    (turn c.loop-settings.invariant (sym c.has_ended.ensures ∙ c.if-has_ended.false) c.if-steps-budget.false c.fetch_at-x.ensures
    c.in-Err.ensures.machine (record { regs = long.regs; device = long.device; local = long.local })) c.in-Err.ensures.faults

pub loop-settings-preserved : goal.loop-settings-preserved
loop-settings-preserved c =
    let long = c.step.auto in
    goes
    (turn c.loop-settings.invariant (sym c.has_ended.ensures ∙ c.if-has_ended.false) c.if-steps-budget.false c.fetch_at-x.ensures
    c.in-Ok.ensures.machine (record { regs = long.regs; device = long.device; local = long.local })) refl
