-- A lane's kind of fault, by its operation and what it read. Page 01, "One step"; that of a base and an offset by page 02.
use Rattle.std.specs.Prelude.{ℕ, cond, length, get_or}
use Rattle.instructions.specs.declared.instr.Op.{Op}
use Rattle.instructions.specs.declared.instr.Space.{Space}
use Rattle.instructions.specs.declared.instr.Instr.{Instr}
use Rattle.arith.specs.Arith.{divides}
use Rattle.faulting.specs.Causes.{address_fault, sum_fault, divisor_fault}
use Rattle.compute.specs.Memory.{Memories, memory_of}
use Rattle.compute.specs.Operands.{Operands}

-- of its RS1 and RS2: an atomic's address is RS1, without an offset
abbrev pub fault_by : Op → Instr → Memories → ℕ → ℕ → ℕ
fault_by (Op.Two o) x y a b = cond (divides o) (divisor_fault b) 0
fault_by (Op.Compare o) x y a b = 0
fault_by (Op.One o) x y a b = 0
fault_by Op.Special x y a b = 0
fault_by Op.Number x y a b = 0
fault_by (Op.Load s) x y a b = sum_fault s (length (memory_of s y)) a x.number
fault_by (Op.Store s) x y a b = sum_fault s (length (memory_of s y)) a x.number
fault_by (Op.Atomic o) x y a b = address_fault Space.Device (length y.device) a
fault_by Op.Cas x y a b = address_fault Space.Device (length y.device) a
fault_by (Op.Wave o) x y a b = 0
fault_by Op.Shuffle x y a b = 0
fault_by (Op.Control o) x y a b = 0

-- lane i's kind, of what it read
abbrev pub kind_of : Instr → Memories → Operands → ℕ → ℕ
kind_of x y v i = fault_by x.op x y (get_or v.a i 0) (get_or v.b i 0)
