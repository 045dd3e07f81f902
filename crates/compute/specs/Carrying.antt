-- One instruction that is not control, carried out by the executing lanes: every lane's result is worked out before any lane is
-- written, and with a fault nothing is written at all.
use Rattle.std.specs.Prelude.{ℕ, ◌*◌, Bool, ◌&&◌, cond, List, leb, length}
use Rattle.lanes.specs.Sets.{widest}
use Rattle.instructions.specs.declared.instr.Instr.{Instr}
use Rattle.instructions.specs.Registers.{registers_below}
use Rattle.faulting.specs.declared.faults.Faults.{Faults}
use Rattle.faulting.specs.Kinds.{no_faults, clear}
use Rattle.faulting.specs.Causes.{kinds_of}
use Rattle.compute.specs.declared.Shape.{Shape}
use Rattle.compute.specs.declared.Carried.{Carried}
use Rattle.compute.specs.Operands.{Lent, lent, Operands, operands_of}
use Rattle.compute.specs.Values.{results_of, target_by, regs_by, predicate_by, memories_by}
use Rattle.compute.specs.Faulting.{kind_of}

-- the faults, and what was lent as it is afterwards
pub record Outcome : Type 0 where
  pub faults : Faults
  pub after : Lent

abbrev pub outcome : Faults → Lent → Outcome
outcome f m = record { faults = f; after = m }

-- an answer with the buffers as they are
abbrev pub carried : Carried → List ℕ → List ℕ → List ℕ → Outcome
carried r regs device local = outcome r.faults (lent r.predicate regs device local)

-- the faults of the lanes t, which have read v
unfoldable pub faults_of : Shape → Instr → ℕ → Operands → Lent → Faults
faults_of shape x t v m = kinds_of shape.width t (kind_of x m.memories v)

-- what the lanes t make of what was lent, having read v, where no lane faults
unfoldable pub after_of : Shape → Instr → ℕ → Operands → Lent → Lent
after_of shape x t v m =
    record {
      predicate = predicate_by (target_by x.op) shape t (results_of shape x t m.memories v) m.predicate;
      regs = regs_by (target_by x.op) shape x.rd t (results_of shape x t m.memories v) m.regs;
      memories = memories_by x.op shape.width x t v m.memories;
    }

-- with a fault everything is as before
abbrev pub unless_fault : Faults → Lent → Lent → Outcome
unless_fault f before after = outcome f (cond (clear f) after before)

-- x carried out by the lanes t, which have read v
abbrev pub having_read : Shape → Instr → ℕ → Operands → Lent → Outcome
having_read shape x t v m = unless_fault (faults_of shape x t v m) m (after_of shape x t v m)

-- W lanes of the widest wave, every register of x below R, and room in the buffer for W×R registers
abbrev pub in_shape : Shape → Instr → List ℕ → Bool
in_shape shape x regs =
    leb shape.width widest && registers_below shape.registers x && leb (shape.width * shape.registers) (length regs)

-- x carried out by the lanes t; out of shape it does nothing
unfoldable pub carried_of : Shape → Instr → ℕ → Lent → Outcome
carried_of shape x t m =
    cond (in_shape shape x m.regs) (having_read shape x t (operands_of shape x m.regs) m) (outcome no_faults m)
