-- Which fields of an instruction are registers; refusal 7, and its test.
use Rattle.std.specs.Prelude.{◌≡◌, Bool, true, false, not, ◌&&◌, ◌||◌, ℕ, ◌≤◌, ltb}
use Rattle.instructions.specs.declared.instr.Op.{Op}
use Rattle.instructions.specs.declared.instr.Instr.{Instr}
use Rattle.instructions.specs.declared.registers.Registers.{Registers}

-- RD, RS1, RS2 and RS3 in order
abbrev pub registers : Bool → Bool → Bool → Bool → Registers
registers d a b c = record { rd = d; rs1 = a; rs2 = b; rs3 = c }

-- which fields of an operation are registers: RD of a comparison names a predicate, RS1 of MOV_SPECIAL is a special number; a store has the stored register in RD.
abbrev pub registers_of : Op → Registers
registers_of (Op.Two o) = registers true true true false
registers_of (Op.Compare o) = registers false true true false
registers_of (Op.One o) = registers true true false false
registers_of Op.Special = registers true false false false
registers_of (Op.Load s) = registers true true false false
registers_of (Op.Store s) = registers true true false false
registers_of Op.Number = registers true false false false
registers_of (Op.Atomic o) = registers true true true false
registers_of Op.Cas = registers true true true true
registers_of (Op.Wave o) = registers true true false false
registers_of Op.Shuffle = registers true true true false
registers_of (Op.Control o) = registers false false false false

-- a field of an instruction that is a register is R or more
pub data Past (R : ℕ) (x : Instr) : Type 0 where
  rd_past : (registers_of x.op).rd ≡ true → R ≤ x.rd → Past R x
  rs1_past : (registers_of x.op).rs1 ≡ true → R ≤ x.rs1 → Past R x
  rs2_past : (registers_of x.op).rs2 ≡ true → R ≤ x.rs2 → Past R x
  rs3_past : (registers_of x.op).rs3 ≡ true → R ≤ x.rs3 → Past R x

-- a field that is a register is below R
abbrev pub below : ℕ → Bool → ℕ → Bool
below R used field = not used || ltb field R

-- every field that is a register is below R
abbrev pub all_below : ℕ → Registers → Instr → Bool
all_below R used i =
    below R used.rd i.rd && below R used.rs1 i.rs1 && below R used.rs2 i.rs2 && below R used.rs3 i.rs3

-- every register of an instruction is below R: otherwise it is refused with 7
abbrev pub registers_below : ℕ → Instr → Bool
registers_below R i = all_below R (registers_of i.op) i
