-- The layout of the words: where each field stands, for reading and for writing.
use Rattle.std.specs.Prelude.{Bool, true, cond, ◌&&◌, List, [], ◌∷◌, ℕ, ◌+◌, ◌*◌, ◌/◌, ◌%◌, ◌-◌, ◌^◌, eqb}
use Rattle.instructions.specs.declared.instr.Op.{Op}
use Rattle.instructions.specs.declared.instr.Guard.{Guard}
use Rattle.instructions.specs.declared.instr.Instr.{Instr}
use Rattle.instructions.specs.declared.forms.Second.{Second}
use Rattle.words.specs.declared.reading.Fetched.{Fetched}
use Rattle.opcodes.specs.Table.{opcode_of, modifier_of}
use Rattle.instructions.specs.Forms.{limits_of}

-- bits hi to lo of a word
abbrev pub bits : ℕ → ℕ → ℕ → ℕ
bits hi lo w = w / 2 ^ lo % 2 ^ (hi + 1 - lo)

-- Word 0: opcode 31:24, RD 23:16, RS1 15:8, modifier 7:4, bit 3 zero, negate 2, predicate 1:0.
abbrev pub opcode_in : ℕ → ℕ
opcode_in w = w / 2 ^ 24

abbrev pub rd_in : ℕ → ℕ
rd_in w = bits 23 16 w

abbrev pub rs1_in : ℕ → ℕ
rs1_in w = bits 15 8 w

abbrev pub modifier_in : ℕ → ℕ
modifier_in w = bits 7 4 w

abbrev pub bit3_in : ℕ → ℕ
bit3_in w = bits 3 3 w

abbrev pub negate_in : ℕ → ℕ
negate_in w = bits 2 2 w

abbrev pub pred_in : ℕ → ℕ
pred_in w = w % 2 ^ 2

-- Register-form word 1: RS2 31:24, RS3 23:16, RS4 15:8, 7:2 zero, scope 1:0.
abbrev pub rs2_in : ℕ → ℕ
rs2_in v = v / 2 ^ 24

abbrev pub rs3_in : ℕ → ℕ
rs3_in v = bits 23 16 v

abbrev pub rs4_in : ℕ → ℕ
rs4_in v = bits 15 8 v

abbrev pub spare_in : ℕ → ℕ
spare_in v = bits 7 2 v

abbrev pub scope_in : ℕ → ℕ
scope_in v = v % 2 ^ 2

-- an instruction from its parts
abbrev pub instr : Op → Guard → ℕ → ℕ → ℕ → ℕ → ℕ → ℕ → Instr
instr op guard rd rs1 rs2 rs3 scope number =
    record { op = op; guard = guard; rd = rd; rs1 = rs1; rs2 = rs2; rs3 = rs3; scope = scope; number = number }

-- an instruction of so many words
abbrev pub counted : Instr → ℕ → Fetched
counted i n = record { instr = i; words = n }

-- negate and predicate
abbrev pub guard_in : ℕ → Guard
guard_in w = record { pred = pred_in w; negate = eqb (negate_in w) 1 }

-- the instruction of word 0, with the fields of word 1
abbrev pub headed : Op → ℕ → ℕ → ℕ → ℕ → ℕ → Instr
headed o w rs2 rs3 scope number = instr o (guard_in w) (rd_in w) (rs1_in w) rs2 rs3 scope number

-- the instruction of both words; word 1 counts only where there is one, and is one number where it isn't of registers
abbrev pub instr_in : Second → Op → ℕ → ℕ → Instr
instr_in Second.Nothing o w v = headed o w 0 0 0 0
instr_in Second.Number o w v = headed o w 0 0 0 v
instr_in (Second.Registers rs2 rs3 scope) o w v = headed o w (rs2_in v) (rs3_in v) (scope_in v) 0

-- RS4, which no operation uses, and 7:2 of a register-form word 1 are zero
abbrev pub second_spare : Second → ℕ → Bool
second_spare Second.Nothing v = true
second_spare Second.Number v = true
second_spare (Second.Registers rs2 rs3 scope) v = eqb (rs4_in v) 0 && eqb (spare_in v) 0

-- the bits that no instruction uses are zero
abbrev pub spare_zero : Second → ℕ → ℕ → Bool
spare_zero s w v = eqb (bit3_in w) 0 && second_spare s v

-- negate in its place
abbrev pub negate_bit : Guard → ℕ
negate_bit g = cond g.negate (2 ^ 2) 0

-- word 0 of an instruction
abbrev pub first_word : Instr → ℕ
first_word i =
    opcode_of i.op * 2 ^ 24 + i.rd * 2 ^ 16 + i.rs1 * 2 ^ 8 + modifier_of i.op * 2 ^ 4 + negate_bit i.guard + i.guard.pred

-- word 1, where there is one
abbrev pub rest_of : Second → Instr → List ℕ
rest_of Second.Nothing i = []
rest_of Second.Number i = i.number ∷ []
rest_of (Second.Registers rs2 rs3 scope) i = (i.rs2 * 2 ^ 24 + i.rs3 * 2 ^ 16 + i.scope) ∷ []

-- the words of an instruction
abbrev pub words_of : Instr → List ℕ
words_of i = first_word i ∷ rest_of (limits_of i.op).second i
