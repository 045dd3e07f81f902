-- `compute::classes::load_through` meets its contract: the writer was handed the words and the faults at the addresses.
use mathlib.Core.Path.{ap, ◌∙◌}
use mathlib.Core.List.{List}
use Prim.Native.Nat.{ℕ}
use native.Mathlib.Omega.{arith}
use Rattle.compute.specs.Registers.{write_lanes}
use Rattle.compute.specs.Lanewise.{load_lanes}
use Rattle.compute.proofs.Standing.{ready_narrow}
use Rattle.compute.proofs.Settling.{settled_as}
use Rattle.compute.proofs.Addressing.{reach_told}
use Rattle.compute.proofs.classes.load_through.Goals as goal

pub returns : goal.returns
returns c =
    let a = c.args in
    settled_as c.write_results.ensures _ _
    (reach_told a.space a.shape a.regs.now (λ k. omega (arith, c.slice_known-1.given k)) (ready_narrow c.requires) a.x a.t a.memory.now (omega arith) _
    c.addresses-at.ensures _ c.address_faults-faults.ensures)
    (ap (λ (l : List ℕ). write_lanes a.shape a.regs.now a.x.rd a.t l)
    (c.load_lanes-value.ensures ∙ ap (λ (at : List ℕ). load_lanes a.shape.width at a.memory.now) c.addresses-at.ensures))
