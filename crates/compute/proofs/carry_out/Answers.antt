-- `compute::carry_out` meets its contract, by what `in_shape` told.
use mathlib.Core.Path.{sym, ap, ◌∙◌}
use Rattle.faulting.specs.declared.faults.Faults.{Faults}
use Rattle.compute.specs.Operands.{lent}
use Rattle.compute.specs.Carrying.{outcome}
use Rattle.compute.proofs.Carrying.{carried_in, carried_out}
use Rattle.compute.proofs.carry_out.Goals as goal

pub returns-then-in_shape : goal.returns-then-in_shape
returns-then-in_shape c =
    let a = c.args in
    c.carry.ensures
    ∙ sym (carried_in a.shape a.x a.t (lent a.predicate a.regs.now a.device.now a.local.now)
    (sym c.in_shape.ensures ∙ c.if-in_shape.true))

pub returns : goal.returns
returns c =
    let a = c.args in
    let m = lent a.predicate a.regs.now a.device.now a.local.now in
    ap (λ (f : Faults). outcome f m) c.no_faults.ensures
    ∙ sym (carried_out a.shape a.x a.t m (sym c.in_shape.ensures ∙ c.if-in_shape.false))
