-- The faults of an instruction: their lanes execute and are lanes of the wave, no lane is of two kinds; and which kinds come together.
use mathlib.Core.Bool.{Bool, true, false, cond}
use Prim.Native.Nat.{ℕ}
use lib.ListN.{length, get_or}
use Rattle.instructions.specs.declared.instr.Op.{Op}
use Rattle.instructions.specs.declared.instr.Space.{Space}
use Rattle.instructions.specs.declared.instr.Instr.{Instr}
use Rattle.arith.specs.Arith.{divides}
use Rattle.faulting.specs.Kinds.{lanes_of_kind}
use Rattle.faulting.specs.Causes.{divisor_fault, kinds_of}
use Rattle.faulting.proofs.KindsApart.{
  Within,
  kinds_within,
  no_faults_within,
  Apart,
  kinds_apart,
  no_faults_apart,
  Form,
  no_faults_form,
  unfaulted_form,
  address_form,
  sum_form,
  divisor_form,
}
use Rattle.compute.specs.declared.Shape.{Shape}
use Rattle.compute.specs.Memory.{Memories, memory_of}
use Rattle.compute.specs.Operands.{Lent, operands_of}
use Rattle.compute.specs.Faulting.{fault_by}
use Rattle.compute.specs.Carrying.{Outcome, faults_of, carried_of}
use Rattle.compute.proofs.Carrying.{carried_by_lem}

module _ (shape : Shape) (x : Instr) (t : ℕ) (m : Lent) where
  pub fault_executes : (k : ℕ) → Within shape.width t (lanes_of_kind k (carried_of shape x t m).faults)
  unfolding faults_of
  fault_executes k =
      carried_by_lem shape x t m (λ (o : Outcome). Within shape.width t (lanes_of_kind k o.faults))
      (λ e. kinds_within shape.width t _ k) (no_faults_within shape.width t k)

  pub fault_apart : Apart (carried_of shape x t m).faults
  unfolding faults_of
  fault_apart = carried_by_lem shape x t m (λ (o : Outcome). Apart o.faults) (λ e. kinds_apart shape.width t _) no_faults_apart

-- an operation that divides, and one that doesn't
two_form : (divides : Bool) (W t : ℕ) (b : ℕ → ℕ) → Form (kinds_of W t (λ i. cond divides (divisor_fault (b i)) 0))
two_form true W t b = divisor_form W t b
two_form false W t b = unfaulted_form W t

form_by : (o : Op) (x : Instr) (W t : ℕ) (y : Memories) (a b : ℕ → ℕ) → Form (kinds_of W t (λ i. fault_by o x y (a i) (b i)))
form_by (Op.Two o) x W t y a b = two_form (divides o) W t b
form_by (Op.Compare o) x W t y a b = unfaulted_form W t
form_by (Op.One o) x W t y a b = unfaulted_form W t
form_by Op.Special x W t y a b = unfaulted_form W t
form_by Op.Number x W t y a b = unfaulted_form W t
form_by (Op.Load s) x W t y a b = sum_form s W t (length (memory_of s y)) x.number a
form_by (Op.Store s) x W t y a b = sum_form s W t (length (memory_of s y)) x.number a
form_by (Op.Atomic o) x W t y a b = address_form Space.Device W t (length y.device) a
form_by Op.Cas x W t y a b = address_form Space.Device W t (length y.device) a
form_by (Op.Wave o) x W t y a b = unfaulted_form W t
form_by Op.Shuffle x W t y a b = unfaulted_form W t
form_by (Op.Control o) x W t y a b = unfaulted_form W t

pub fault_form : (shape : Shape) (x : Instr) (t : ℕ) (m : Lent) → Form (carried_of shape x t m).faults
unfolding faults_of
fault_form shape x t m =
    carried_by_lem shape x t m (λ (o : Outcome). Form o.faults)
    (λ e. form_by x.op x shape.width t m.memories (λ i. get_or (operands_of shape x m.regs).a i 0) (λ i. get_or (operands_of shape x m.regs).b i 0))
    no_faults_form
