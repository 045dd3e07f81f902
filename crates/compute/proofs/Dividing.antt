-- The faults of an operation that may divide, by whether it does.
use mathlib.Core.Path.{◌≡◌, refl, ap, ◌∙◌}
use mathlib.Core.Bool.{true, false}
use mathlib.Core.List.{List}
use Prim.Native.Nat.{ℕ}
use Rattle.instructions.specs.declared.instr.TwoOp.{TwoOp}
use Rattle.arith.specs.Arith.{divides}
use Rattle.faulting.specs.declared.faults.Faults.{Faults}
use Rattle.faulting.specs.Kinds.{no_faults}
use Rattle.faulting.specs.Causes.{divisor_faults}
use Rattle.faulting.proofs.FaultKinds.{no_kinds}
use Rattle.compute.specs.declared.Shape.{Shape}
use Rattle.compute.specs.Registers.{gather_of}
use Rattle.compute.specs.Classes.{dividing_faults}

module _ (o : TwoOp) (shape : Shape) (regs : List ℕ) (b t : ℕ) (r : Faults) where
  pub divided : (divisors : List ℕ) → r ≡ divisor_faults shape.width divisors t → divisors ≡ gather_of shape regs b → divides o ≡ true
      → r ≡ dividing_faults o shape regs b t
  divided divisors e g d = e ∙ ap (λ (l : List ℕ). divisor_faults shape.width l t) g ∙ rw d refl

  pub undivided : r ≡ no_faults → divides o ≡ false → r ≡ dividing_faults o shape regs b t
  undivided e d = e ∙ rw d (no_kinds shape.width t (λ i. 0) (λ i l. refl))
