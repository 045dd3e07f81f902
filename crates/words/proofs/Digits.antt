-- The fields of a word: fields that fit their places are read back from the word made of them, and a word is made of the fields read from it.
use mathlib.Core.Path.{◌≡◌}
use mathlib.Core.Bool.{Bool, true, false, cond}
use Prim.Native.Nat.{ℕ, ◌≤◌, ◌<◌, ◌+◌, ◌*◌, ◌/◌, ◌^◌}
use native.Mathlib.Omega.{arith}
use borrow.Author.Rules.{rules}
use Rattle.instructions.specs.declared.instr.Guard.{Guard}
use Rattle.words.specs.Layout.{negate_bit, opcode_in, rd_in, rs1_in, modifier_in, bit3_in, negate_in, pred_in, rs2_in, rs3_in, rs4_in, spare_in, scope_in}

bit_small : (b : Bool) → cond b (2 ^ 2) 0 ≤ 4
bit_small true = search rules
bit_small false = search rules

pub negate_small : (g : Guard) → negate_bit g ≤ 4
negate_small g = bit_small g.negate

-- word 0
abbrev pub joined : ℕ → ℕ → ℕ → ℕ → ℕ → ℕ → ℕ
joined opcode rd rs1 modifier negate pred = opcode * 2 ^ 24 + rd * 2 ^ 16 + rs1 * 2 ^ 8 + modifier * 2 ^ 4 + negate * 2 ^ 2 + pred

module _ (c rd rs1 m n p : ℕ) (rd-fits : rd < 256) (rs1-fits : rs1 < 256) (m-fits : m < 16) (n-fits : n < 2) (p-fits : p < 4) where
  abbrev w : ℕ
  w = joined c rd rs1 m n p

  pub top_back : opcode_in w ≡ c
  top_back = omega arith

  pub rd_back : rd_in w ≡ rd
  rd_back = omega arith

  pub rs1_back : rs1_in w ≡ rs1
  rs1_back = omega arith

  pub modifier_back : modifier_in w ≡ m
  modifier_back = omega arith

  pub spare_back : bit3_in w ≡ 0
  spare_back = omega arith

  pub negate_back : negate_in w ≡ n
  negate_back = omega arith

  pub pred_back : pred_in w ≡ p
  pred_back = omega arith

-- a word whose bit 3 is zero is made of its fields
pub whole_word : (w : ℕ) → bit3_in w ≡ 0 → joined (opcode_in w) (rd_in w) (rs1_in w) (modifier_in w) (negate_in w) (pred_in w) ≡ w
whole_word w z =
    let a : w / 8 ≡ w / 4 / 2 = omega arith in
    let b : w / 16 ≡ w / 8 / 2 = omega arith in
    let d : w / 0x100 ≡ w / 16 / 16 = omega arith in
    let e : w / 0x10000 ≡ w / 0x100 / 256 = omega arith in
    let f : w / 0x1000000 ≡ w / 0x10000 / 256 = omega arith in
    omega arith

-- word 1 of registers
abbrev pub paired : ℕ → ℕ → ℕ → ℕ
paired rs2 rs3 scope = rs2 * 2 ^ 24 + rs3 * 2 ^ 16 + scope

module _ (rs2 rs3 scope : ℕ) (rs3-fits : rs3 < 256) (scope_fits : scope < 4) where
  pub rs2_back : rs2_in (paired rs2 rs3 scope) ≡ rs2
  rs2_back = omega arith

  pub rs3_back : rs3_in (paired rs2 rs3 scope) ≡ rs3
  rs3_back = omega arith

  pub rs4_back : rs4_in (paired rs2 rs3 scope) ≡ 0
  rs4_back = omega arith

  pub unused_back : spare_in (paired rs2 rs3 scope) ≡ 0
  unused_back = omega arith

  pub scope_back : scope_in (paired rs2 rs3 scope) ≡ scope
  scope_back = omega arith

-- a second word whose RS4 and bits 7:2 are zero is made of its fields
pub whole_pair : (v : ℕ) → rs4_in v ≡ 0 → spare_in v ≡ 0 → paired (rs2_in v) (rs3_in v) (scope_in v) ≡ v
whole_pair v y z =
    let a : v / 0x100 ≡ v / 4 / 64 = omega arith in
    let b : v / 0x10000 ≡ v / 0x100 / 256 = omega arith in
    let d : v / 0x1000000 ≡ v / 0x10000 / 256 = omega arith in
    omega arith
