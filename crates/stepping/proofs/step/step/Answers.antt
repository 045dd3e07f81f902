-- A control instruction goes by its rule, any other by the lanes' work.
use mathlib.Core.Path.{sym, ◌∙◌}
use Rattle.stepping.proofs.Stepping.{control_goes, control_stays, step_ordinary}
use Rattle.stepping.proofs.step.step.Goals as goal

pub returns-then-is_clear-clause-machine : goal.returns-then-is_clear-clause-machine
returns-then-is_clear-clause-machine c =
    let a = c.args in
    control_goes a.settings a.x a.h _ _ _ _ c.control-a.result c.executing-t.ensures (sym c.control_in.ensures ∙ c.in-Some.is) c.first.ensures c.told-blocks c.control-a.ensures
    c.of_barrier-faults.ensures (sym c.is_clear.ensures ∙ c.if-is_clear.true)

pub returns-else-is_clear-clause-machine : goal.returns-else-is_clear-clause-machine
returns-else-is_clear-clause-machine c =
    let a = c.args in
    control_stays a.settings a.x a.h _ _ _ _ c.control-a.result c.executing-t.ensures (sym c.control_in.ensures ∙ c.in-Some.is) c.first.ensures c.told-blocks c.control-a.ensures
    c.of_barrier-faults.ensures (sym c.is_clear.ensures ∙ c.if-is_clear.false)

pub returns-in-None-clause-machine : goal.returns-in-None-clause-machine
returns-in-None-clause-machine c =
    c.ordinary.ensures.machine _ ∙ step_ordinary _ _ _ _ _ _ _ c.executing-t.ensures (sym c.control_in.ensures ∙ c.in-None.is)
