-- An instruction in shape: each of its fields that is a register stands in the buffer.
use mathlib.Core.Path.{◌≡◌, refl, ◌∙◌}
use mathlib.Core.Bool.{Bool, true, ◌&&◌}
use mathlib.Core.List.{List}
use Prim.Native.Nat.{ℕ, ◌*◌, ◌≤◌, ◌<◌}
use lib.Dec.{leb}
use lib.ListN.{length}
use borrow.Author.Tests.{ltb-true, leb-true}
use Rattle.ground.proofs.Bools.{and_left, and_right}
use Rattle.lanes.specs.Sets.{widest}
use Rattle.instructions.specs.declared.instr.Op.{Op}
use Rattle.instructions.specs.declared.instr.Instr.{Instr}
use Rattle.instructions.specs.declared.registers.Registers.{Registers}
use Rattle.instructions.specs.Registers.{registers_of, below, registers_below}
use Rattle.compute.specs.declared.Shape.{Shape}
use Rattle.compute.specs.declared.memory.Change.{Change}
use Rattle.compute.specs.Registers.{Stands}
use Rattle.compute.specs.Carrying.{in_shape}
use Rattle.compute.specs.Lanewise.{op_by, desired_by}
use Rattle.compute.specs.Classes.{Ready}

-- a field that is a register is below R
register_low : (R : ℕ) (used : Bool) (field : ℕ) → used ≡ true → below R used field ≡ true → field < R
register_low R used field u h = ltb-true field R (rw u at h)

module _ (shape : Shape) (x : Instr) (regs : List ℕ) (h : in_shape shape x regs ≡ true) where
  abbrev R : ℕ
  R = shape.registers

  abbrev fits : Bool
  fits = leb shape.width widest

  abbrev roomy : Bool
  roomy = leb (shape.width * R) (length regs)

  pub narrow : shape.width ≤ widest
  narrow = leb-true shape.width widest (and_left fits (registers_below R x) (and_left (fits && registers_below R x) roomy h))

  room : shape.width * R ≤ length regs
  room = leb-true (shape.width * R) (length regs) (and_right (fits && registers_below R x) roomy h)

  registers : registers_below R x ≡ true
  registers = and_right fits (registers_below R x) (and_left (fits && registers_below R x) roomy h)

  -- the tests of the four fields
  abbrev used : Registers
  used = registers_of x.op

  abbrev rd_low : Bool
  rd_low = below R used.rd x.rd

  abbrev rs1_low : Bool
  rs1_low = below R used.rs1 x.rs1

  abbrev rs2_low : Bool
  rs2_low = below R used.rs2 x.rs2

  abbrev rs3_low : Bool
  rs3_low = below R used.rs3 x.rs3

  first_three : (rd_low && rs1_low && rs2_low) ≡ true
  first_three = and_left (rd_low && rs1_low && rs2_low) rs3_low registers

  first_two : (rd_low && rs1_low) ≡ true
  first_two = and_left (rd_low && rs1_low) rs2_low first_three

  stands : (u : Bool) (field : ℕ) → u ≡ true → below R u field ≡ true → Stands shape regs field
  stands u field e b = record { narrow = narrow; low = register_low R u field e b; room = room }

  -- the fields that are registers of its operation
  module _ (o : Op) (e : x.op ≡ o) where
    pub stands_rd : (registers_of o).rd ≡ true → Stands shape regs x.rd
    stands_rd u = stands used.rd x.rd (rw e u) (and_left rd_low rs1_low first_two)

    pub stands_rs1 : (registers_of o).rs1 ≡ true → Stands shape regs x.rs1
    stands_rs1 u = stands used.rs1 x.rs1 (rw e u) (and_right rd_low rs1_low first_two)

    pub stands_rs2 : (registers_of o).rs2 ≡ true → Stands shape regs x.rs2
    stands_rs2 u = stands used.rs2 x.rs2 (rw e u) (and_right (rd_low && rs1_low) rs2_low first_three)

    pub stands_rs3 : (registers_of o).rs3 ≡ true → Stands shape regs x.rs3
    stands_rs3 u = stands used.rs3 x.rs3 (rw e u) (and_right (rd_low && rs1_low && rs2_low) rs3_low registers)

-- the same, of what the code's parts ask for
module _ {o : Op} {shape : Shape} {x : Instr} {regs : List ℕ} (h : Ready o shape x regs) where
  pub ready_narrow : shape.width ≤ widest
  ready_narrow = narrow shape x regs h.shaped

  pub ready_rd : (registers_of o).rd ≡ true → Stands shape regs x.rd
  ready_rd = stands_rd shape x regs h.shaped o h.is

  pub ready_rs1 : (registers_of o).rs1 ≡ true → Stands shape regs x.rs1
  ready_rs1 = stands_rs1 shape x regs h.shaped o h.is

  pub ready_rs2 : (registers_of o).rs2 ≡ true → Stands shape regs x.rs2
  ready_rs2 = stands_rs2 shape x regs h.shaped o h.is

  pub ready_rs3 : (registers_of o).rs3 ≡ true → Stands shape regs x.rs3
  ready_rs3 = stands_rs3 shape x regs h.shaped o h.is

  -- of the operation by another name
  pub ready_as : {o' : Op} → o ≡ o' → Ready o' shape x regs
  ready_as e = record { shaped = h.shaped; is = h.is ∙ e }

-- the registers of an atomic: RD, its address, its operand and the desired word
pub record ChangeStands (change : Change) (shape : Shape) (x : Instr) (regs : List ℕ) : Type 0 where
  pub rd : Stands shape regs x.rd
  pub rs1 : Stands shape regs x.rs1
  pub rs2 : Stands shape regs x.rs2
  pub desired : Stands shape regs (desired_by change x)

pub ready_change : {shape : Shape} {x : Instr} {regs : List ℕ} (change : Change) → Ready (op_by change) shape x regs → ChangeStands change shape x regs
ready_change (Change.Atomic o) h =
    record { rd = ready_rd h refl; rs1 = ready_rs1 h refl; rs2 = ready_rs2 h refl; desired = ready_rs2 h refl }
ready_change Change.Swap h = record { rd = ready_rd h refl; rs1 = ready_rs1 h refl; rs2 = ready_rs2 h refl; desired = ready_rs3 h refl }
