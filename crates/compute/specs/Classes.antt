-- A step of the proofs: nothing that is said to the reader rests on this file.
-- What the code's parts for one class of instructions ask for, and what they promise.
use Rattle.std.specs.Prelude.{◌≡◌, true, cond, List, ℕ, length, get_or}
use Rattle.instructions.specs.declared.instr.TwoOp.{TwoOp}
use Rattle.instructions.specs.declared.instr.Op.{Op}
use Rattle.instructions.specs.declared.instr.Space.{Space}
use Rattle.instructions.specs.declared.instr.Instr.{Instr}
use Rattle.arith.specs.Arith.{divides}
use Rattle.faulting.specs.declared.faults.Faults.{Faults}
use Rattle.faulting.specs.Kinds.{clear}
use Rattle.faulting.specs.Causes.{sum_fault, divisor_fault, kinds_of}
use Rattle.compute.specs.declared.Shape.{Shape}
use Rattle.compute.specs.Registers.{gather_of, write_lanes}
use Rattle.compute.specs.Memory.{addresses_of, changes_of}
use Rattle.compute.specs.Operands.{lent, operands_of}
use Rattle.compute.specs.Carrying.{outcome, in_shape, having_read}
use Rattle.compute.specs.Lanewise.{load_lanes}

-- an instruction in shape, of the operation o
pub record Ready (o : Op) (shape : Shape) (x : Instr) (regs : List ℕ) : Type 0 where
  pub shaped : in_shape shape x regs ≡ true
  pub is : x.op ≡ o

-- the answer and the buffers afterwards are those of the one definition, whatever the predicate
abbrev pub Carries : Shape → Instr → ℕ → List ℕ → List ℕ → List ℕ → Faults → List ℕ → List ℕ → List ℕ → Type 0
Carries shape x t regs device local answer regs' device' local' =
    (p : ℕ) → outcome answer (lent p regs' device' local') ≡ having_read shape x t (operands_of shape x regs) (lent p regs device local)

-- the answer is the faults, and what was lent is changed unless a lane faults
pub record Settled {A : Type 0} (faults : Faults) (changed : A) (answer : Faults) (before after : A) : Type 0 where
  pub answered : answer ≡ faults
  pub left : after ≡ cond (clear faults) changed before

-- the faults of an operation that may divide by the registers b
abbrev pub dividing_faults : TwoOp → Shape → List ℕ → ℕ → ℕ → Faults
dividing_faults o shape regs b t = kinds_of shape.width t (λ i. cond (divides o) (divisor_fault (get_or (gather_of shape regs b) i 0)) 0)

-- the addresses that a load or a store reaches
abbrev pub reached : Shape → Instr → List ℕ → List ℕ
reached shape x regs = addresses_of shape.width (gather_of shape regs x.rs1) x.number

-- its faults, in a memory
abbrev pub reach_faults : Space → Shape → Instr → ℕ → List ℕ → List ℕ → Faults
reach_faults space shape x t regs memory =
    kinds_of shape.width t (λ i. sum_fault space (length memory) (get_or (gather_of shape regs x.rs1) i 0) x.number)

-- a load from one memory
abbrev pub Loads : Space → Shape → Instr → ℕ → List ℕ → Faults → List ℕ → List ℕ → Type 0
Loads space shape x t memory answer before after =
    Settled (reach_faults space shape x t before memory)
    (write_lanes shape before x.rd t (load_lanes shape.width (reached shape x before) memory)) answer before after

-- what the stores make of a memory
abbrev pub stores_of : Shape → Instr → ℕ → List ℕ → List ℕ → List ℕ
stores_of shape x t regs memory =
    changes_of shape.width (reached shape x regs) (λ i old. get_or (gather_of shape regs x.rd) i 0) t memory

-- a store to one memory
abbrev pub Stores : Space → Shape → Instr → ℕ → List ℕ → Faults → List ℕ → List ℕ → Type 0
Stores space shape x t regs answer before after =
    Settled (reach_faults space shape x t regs before) (stores_of shape x t regs before) answer before after
