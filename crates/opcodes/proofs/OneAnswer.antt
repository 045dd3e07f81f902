-- One answer to each promise: any two results that it allows are equal. A law for each public function.
use Rattle.std.specs.Prelude.{Option}
use mathlib.Core.Path.{◌≡◌}
use Prim.Native.Nat.{ℕ}
use Rattle.instructions.specs.declared.instr.Op.{Op}
use Rattle.instructions.proofs.OneAnswer.{one}
use Rattle.opcodes.specs.Table.{op_of, opcode_of, modifier_of, find, has, in_registers, reaching, controls}

pub op_of_one : (opcode modifier : ℕ) (r u : Option Op) → r ≡ op_of opcode modifier → u ≡ op_of opcode modifier → r ≡ u
op_of_one opcode modifier r u p q = one p q

pub register_op_one :
    (opcode modifier : ℕ) (r u : Option Op) → r ≡ find (has opcode modifier) in_registers → u ≡ find (has opcode modifier) in_registers → r ≡ u
register_op_one opcode modifier r u p q = one p q

pub reaching_op_one :
    (opcode modifier : ℕ) (r u : Option Op) → r ≡ find (has opcode modifier) reaching → u ≡ find (has opcode modifier) reaching → r ≡ u
reaching_op_one opcode modifier r u p q = one p q

pub control_op_one : (modifier : ℕ) (r u : Option Op) → r ≡ find (has 0x3F modifier) controls → u ≡ find (has 0x3F modifier) controls → r ≡ u
control_op_one modifier r u p q = one p q

pub opcode_of_one : (op : Op) (r u : ℕ) → r ≡ opcode_of op → u ≡ opcode_of op → r ≡ u
opcode_of_one op r u p q = one p q

pub modifier_of_one : (op : Op) (r u : ℕ) → r ≡ modifier_of op → u ≡ modifier_of op → r ≡ u
modifier_of_one op r u p q = one p q
