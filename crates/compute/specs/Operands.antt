-- What an instruction is lent, and what its lanes read of it.
use Rattle.std.specs.Prelude.{ℕ, Bool, cond, List, []}
use Rattle.instructions.specs.declared.instr.Instr.{Instr}
use Rattle.instructions.specs.declared.registers.Registers.{Registers}
use Rattle.instructions.specs.Registers.{registers_of}
use Rattle.compute.specs.declared.Shape.{Shape}
use Rattle.compute.specs.Registers.{gather_of}
use Rattle.compute.specs.Memory.{Memories, memories}

-- the predicate that RD names, the registers and the memories
pub record Lent : Type 0 where
  pub predicate : ℕ
  pub regs : List ℕ
  pub memories : Memories

abbrev pub lent : ℕ → List ℕ → List ℕ → List ℕ → Lent
lent predicate regs device local =
    record { predicate = predicate; regs = regs; memories = memories device local }

-- the lanes' registers RS1, RS2, RS3 and RD
pub record Operands : Type 0 where
  pub a : List ℕ
  pub b : List ℕ
  pub c : List ℕ
  pub d : List ℕ

-- a field is gathered where it is a register of the operation
abbrev pub gathered : Bool → Shape → List ℕ → ℕ → List ℕ
gathered used shape regs field = cond used (gather_of shape regs field) []

-- the fields that `used` says are registers
abbrev pub operands_by : Registers → Shape → Instr → List ℕ → Operands
operands_by used shape x regs =
    record {
      a = gathered used.rs1 shape regs x.rs1;
      b = gathered used.rs2 shape regs x.rs2;
      c = gathered used.rs3 shape regs x.rs3;
      d = gathered used.rd shape regs x.rd;
    }

-- what the lanes read: the registers of the operation
abbrev pub operands_of : Shape → Instr → List ℕ → Operands
operands_of shape x regs = operands_by (registers_of x.op) shape x regs
