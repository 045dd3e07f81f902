-- `compute::classes::dividing_faults` meets its contract, by what `divides` told.
use mathlib.Core.Path.{sym, ◌∙◌}
use Rattle.compute.proofs.Dividing.{undivided}
use Rattle.compute.proofs.classes.dividing_faults.Goals as goal

pub returns : goal.returns
returns c =
    let a = c.args in
    undivided a.op a.bank.now.shape a.bank.now.regs.now a.rs2 a.t _ c.no_faults.ensures (sym c.divides.ensures ∙ c.if-divides.false)
